-- The lines of a certificate that its migration keeps.
use Rattle.lemmas.proofs.Common.{[], ◌++◌, ◌+◌, ◌∙◌, ◌∷◌, ◌≡◌, Bool, List, None, Some, ap, ap₂, append-nil, codes}
use Rattle.lemmas.proofs.Common.{append_assoc, arith, drop, false, flat_map, if◌then◌else◌, not}
use Rattle.lemmas.proofs.Common.{position, refl, sym, take, true, ℕ, ◌<◌, ◌==◌, ◌≢◌}
use Rattle.section_text.specs.SaidSection.{IsSection}
use Rattle.section_text.specs.Section.{with_line_feed}
use Rattle.section_text.specs.Words.{is_line_feed, lines_of, words_of}
unfoldable use Rattle.section_text.specs.Words.{number_after_keyword, number_of}
use Rattle.section_text.specs.declared.section.Form.TheVariants.{End, Header, Item}
use Rattle.section_text.proofs.Lines.{first_line, no_line, text_before}
use Rattle.section_text.proofs.MadeSections.{forms, items_said, no_lines, one_line}
unfoldable use Rattle.certificate_lines.specs.Forms.{form_of}
unfoldable use Rattle.certificate_lines.proofs.Imports.{is_word_at}
unfoldable use Rattle.pattern.proofs.Imports.{number_at}
use Rattle.certificate_lines.specs.Versions.{is_halo_line}
unfoldable use Rattle.certificate_lines.specs.Versions.{without_halo_lines}
use Rattle.certificate_lines.specs.declared.certificate_line.CertificateLine.{CertificateLine}
use Rattle.certificate_lines.specs.declared.certificate_line.CertificateLine.TheVariants.{Cut, Edge, Halo, Keep}
use Rattle.certificate_lines.specs.declared.certificate_line.CertificateLine.TheVariants.{Module, Stop, Use}
use Rattle.certificate.specs.Text.{entry_text, form_text}
use Rattle.certificate.proofs.Spelling.{form_line}
use Rattle.answers.specs.KeptLines.{begins_with_h, line_unless_begins_with_h}
unfoldable use Rattle.answers.specs.KeptLines.{lines_not_beginning_with_h}

-- ---- line by line

pub none_behind : (w : List ℕ) → position is_line_feed w ≡ None → lines_of w ≡ drop 1 (lines_of w)
none_behind w none = (no_line w none).0 ∙ ap (drop 1) (sym (no_line w none).0)

pub others_behind : (w : List ℕ) (n : ℕ) → position is_line_feed w ≡ Some n →
    lines_of (drop (n + 1) w) ≡ drop 1 (lines_of w)
others_behind w n at = ap (drop 1) (sym (first_line w n at).lines)

-- the first line, with its line feed
first_with_line_feed : (w : List ℕ) (n : ℕ) → position is_line_feed w ≡ Some n →
    take (n + 1) w ≡ with_line_feed (take n w)
first_with_line_feed w n at =
    let first = first_line w n at in
    text_before w (n + 1) 1 (others_behind w n at) (sym first.rest)
    ∙ ap (λ ls. flat_map with_line_feed (take 1 ls)) first.lines ∙ append-nil (with_line_feed (take n w))

begins_alike : (l : List ℕ) → begins_with_h (with_line_feed l) ≡ begins_with_h l
begins_alike [] = refl
begins_alike (byte ∷ bytes) = refl

dropped : (l : List ℕ) (ls : List (List ℕ)) → begins_with_h l ≡ true →
    lines_not_beginning_with_h (l ∷ ls) ≡ lines_not_beginning_with_h ls
unfolding lines_not_beginning_with_h
dropped l ls h = ap (λ b. if not b then l ∷ lines_not_beginning_with_h ls else lines_not_beginning_with_h ls) h

kept : (l : List ℕ) (ls : List (List ℕ)) → begins_with_h l ≡ false →
    lines_not_beginning_with_h (l ∷ ls) ≡ l ∷ lines_not_beginning_with_h ls
unfolding lines_not_beginning_with_h
kept l ls h = ap (λ b. if not b then l ∷ lines_not_beginning_with_h ls else lines_not_beginning_with_h ls) h

-- the text of the lines that are kept
abbrev pub kept_text : List ℕ → List ℕ
kept_text w = flat_map with_line_feed (lines_not_beginning_with_h (lines_of w))

pub none_kept : (w : List ℕ) → position is_line_feed w ≡ None → kept_text w ≡ []
unfolding lines_not_beginning_with_h
none_kept w none = ap (λ ls. flat_map with_line_feed (lines_not_beginning_with_h ls)) (no_line w none).0

more_kept : (l : List ℕ) (ls : List (List ℕ)) (b : Bool) → begins_with_h l ≡ b →
    flat_map with_line_feed (lines_not_beginning_with_h (l ∷ ls))
    ≡ (if b then [] else with_line_feed l) ++ flat_map with_line_feed (lines_not_beginning_with_h ls)
more_kept l ls true h = ap (flat_map with_line_feed) (dropped l ls h)
more_kept l ls false h = ap (flat_map with_line_feed) (kept l ls h)

-- the first line, and the text behind it
pub first_kept : (w : List ℕ) (n : ℕ) → position is_line_feed w ≡ Some n →
    kept_text w ≡ line_unless_begins_with_h (take (n + 1) w) ++ kept_text (drop (n + 1) w)
first_kept w n at =
    let line = take n w in
    ap (λ ls. flat_map with_line_feed (lines_not_beginning_with_h ls)) (first_line w n at).lines
    ∙ more_kept line (lines_of (drop (n + 1) w)) (begins_with_h (with_line_feed line)) (sym (begins_alike line))
    ∙ ap (λ l. line_unless_begins_with_h l ++ kept_text (drop (n + 1) w)) (sym (first_with_line_feed w n at))

-- ---- the lines of a certificate

header_said : form_of (words_of (codes "certificate 2")) ≡ Some (Header 2)
unfolding form_of is_word_at number_after_keyword number_at number_of
header_said = refl

pub header_line : with_line_feed (codes "certificate 2") ≡ form_text (Header 2)
header_line = form_line (codes "certificate 2") (Header 2) header_said

pub without_halo : (i : CertificateLine) (items : List CertificateLine) → is_halo_line i ≡ true →
    without_halo_lines (i ∷ items) ≡ without_halo_lines items
unfolding without_halo_lines
without_halo i items e = ap (λ b. if not b then i ∷ without_halo_lines items else without_halo_lines items) e

pub with_other : (i : CertificateLine) (items : List CertificateLine) → is_halo_line i ≡ false →
    without_halo_lines (i ∷ items) ≡ i ∷ without_halo_lines items
unfolding without_halo_lines
with_other i items e = ap (λ b. if not b then i ∷ without_halo_lines items else without_halo_lines items) e

first_of : (l bytes : List ℕ) (b : ℕ) → with_line_feed l ≡ b ∷ bytes → b ≢ 10 → begins_with_h l ≡ (b == 104)
first_of [] bytes b e other = absurd (other cc)
first_of (byte ∷ more) bytes b e other =
    let same : byte ≡ b = cc in
    ap (λ c. c == 104) same

other_than_10 : (b : ℕ) → 10 < b → b ≢ 10
other_than_10 b h e = absurd (omega (arith, e))

-- only a halo line begins so
begins : (l : List ℕ) (i : CertificateLine) → with_line_feed l ≡ entry_text i → begins_with_h l ≡ is_halo_line i
unfolding is_halo_line
begins l (Module b) e = first_of l _ 109 e (other_than_10 109 (omega arith))
begins l (Cut name) e = first_of l _ 99 e (other_than_10 99 (omega arith))
begins l (Use number) e = first_of l _ 117 e (other_than_10 117 (omega arith))
begins l (Keep number) e = first_of l _ 107 e (other_than_10 107 (omega arith))
begins l (Edge border) e = first_of l _ 101 e (other_than_10 101 (omega arith))
begins l (Halo border) e = first_of l _ 104 e (other_than_10 104 (omega arith))
begins l (Stop stop) e = first_of l _ 115 e (other_than_10 115 (omega arith))

abbrev AreKept : List (List ℕ) → List CertificateLine → Type 0
AreKept ls items = flat_map with_line_feed (lines_not_beginning_with_h ls)
    ≡ flat_map entry_text (without_halo_lines items) ++ form_text End

one_more : (l : List ℕ) (i : CertificateLine) (ls : List (List ℕ)) (items : List CertificateLine) (b : Bool) →
    is_halo_line i ≡ b → with_line_feed l ≡ entry_text i → AreKept ls items → AreKept (l ∷ ls) (i ∷ items)
one_more l i ls items true halo e more =
    ap (flat_map with_line_feed) (dropped l ls (begins l i e ∙ halo)) ∙ more
    ∙ ap (λ is. flat_map entry_text is ++ form_text End) (sym (without_halo i items halo))
one_more l i ls items false halo e more =
    ap (flat_map with_line_feed) (kept l ls (begins l i e ∙ halo))
    ∙ ap₂ (λ a t. a ++ t) e more
    ∙ sym (append_assoc (entry_text i) (flat_map entry_text (without_halo_lines items)) (form_text End))
    ∙ ap (λ is. flat_map entry_text is ++ form_text End) (sym (with_other i items halo))

items_kept : (items : List CertificateLine) (ls : List (List ℕ)) → forms form_of ls ≡ items_said form_of items →
    AreKept ls items
unfolding without_halo_lines lines_not_beginning_with_h
items_kept [] ls e =
    let one = one_line form_of (Some End) [] ls e in
    let end = form_line one.line End one.first_form in
    ap (λ ks. flat_map with_line_feed (lines_not_beginning_with_h ks))
    (one.lines ∙ ap (λ ks. one.line ∷ ks) (no_lines form_of one.rest one.other_forms))
    ∙ ap (flat_map with_line_feed) (kept one.line [] (first_of one.line _ 101 end (other_than_10 101 (omega arith))))
    ∙ append-nil (with_line_feed one.line) ∙ end
items_kept (i ∷ items) ls e =
    let one = one_line form_of (Some (Item i)) (items_said form_of items) ls e in
    ap (λ ks. flat_map with_line_feed (lines_not_beginning_with_h ks)) one.lines
    ∙ one_more one.line i one.rest items (is_halo_line i) refl (form_line one.line (Item i) one.first_form)
    (items_kept items one.rest one.other_forms)

pub section_kept : (ls : List (List ℕ)) (version : ℕ) (items : List CertificateLine) →
    IsSection form_of ls version items → AreKept (drop 1 ls) items
section_kept ls version items e =
    let one = one_line form_of (Some (Header version)) (items_said form_of items) ls e in
    ap (λ ks. flat_map with_line_feed (lines_not_beginning_with_h (drop 1 ks))) one.lines
    ∙ items_kept items one.rest one.other_forms
