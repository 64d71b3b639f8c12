-- The fourth line of a report.
use Rattle.headline.proofs.Imports.{All-from_recursion, Bool, CertView, FourthLineSaysYes, IsOneLine, List, Option}
use Rattle.headline.proofs.Imports.{Refusal, Some, Verdict, [], and_parts, ap, append-nil, append_assoc, ap₂, arith}
use Rattle.headline.proofs.Imports.{codes, common_steps, cond, decimal, ended-cons, eqb, false, flat_map, kept, length}
use Rattle.headline.proofs.Imports.{line_text, lines_of, list_all, not, refl, refusal_line, report_line_text}
use Rattle.headline.proofs.Imports.{report_text, slice_get, slice_split_at, some_part, space_and_word, suc, sym}
use Rattle.headline.proofs.Imports.{timing_report_line, true, zero, ℕ, ◌%◌, ◌&&◌, ◌++◌, ◌<◌, ◌∙◌, ◌∷◌, ◌≡◌}
use Rattle.lemmas.proofs.Common.{digit_glyph, digits_onto, false_from_not, get_or, list_all-append, onto_first}
use Rattle.lemmas.proofs.Common.{slice_split, ◌/◌}
use Rattle.std.specs.Fmt.{digits}
use Rattle.hex.specs.Hex.{encode_lower, encode_with, lower_digits}
use Rattle.section_text.specs.Words.{ended_parts, is_line_feed}
use Rattle.certificate.specs.declared.times.TimeLine.{TimeLine}
use Rattle.report.specs.ReportText.{verdict_lines}
use Rattle.headline.specs.Laws.{SaysYesMeansFourthLine}
use Rattle.core_book.specs.declared.verdict.Verdict.TheVariants as verdict

-- ---- bytes that are no line feed

abbrev is_clean : List ℕ → Bool
is_clean l = list_all (λ b. not (is_line_feed b)) l

one_line : (l : List ℕ) → is_clean l ≡ true → IsOneLine l
one_line [] e = tt
one_line (b ∷ l) e = grind (arith, common_steps, and_parts, false_from_not, one_line l)

clean_index : (l : List ℕ) (k : ℕ) → is_clean l ≡ true → not (is_line_feed (get_or l k 0)) ≡ true
clean_index [] k e = refl
clean_index (b ∷ l) zero e = (and_parts (not (is_line_feed b)) (is_clean l) e).0
clean_index (b ∷ l) (suc k) e = clean_index l k (and_parts (not (is_line_feed b)) (is_clean l) e).1

clean_hex : (bytes : List ℕ) → is_clean (encode_lower bytes) ≡ true
unfolding encode_with
clean_hex [] = refl
clean_hex (b ∷ bytes) =
    cc ((clean_index lower_digits (b / 16) refl), (clean_index lower_digits (b % 16) refl), (clean_hex bytes))

clean_glyph : (d : ℕ) → not (is_line_feed (digit_glyph false d)) ≡ true
clean_glyph d = grind (arith, common_steps)

clean_choice : (t : Bool) (a b : List ℕ) → is_clean a ≡ true → is_clean b ≡ true → is_clean (cond t a b) ≡ true
clean_choice t a b h1 h2 = grind (arith, common_steps)

clean_digits : (k n : ℕ) (acc : List ℕ) → is_clean acc ≡ true → is_clean (digits_onto k 10 false n acc) ≡ true
clean_digits zero n acc e = e
clean_digits (suc k) n acc e =
    let more = ap₂ (λ p q. p && q) (clean_glyph (n % 10)) e in
    clean_choice (eqb (n / 10) 0) (digit_glyph false (n % 10) ∷ acc)
    (digits_onto k 10 false (n / 10) (digit_glyph false (n % 10) ∷ acc)) more
    (clean_digits k (n / 10) (digit_glyph false (n % 10) ∷ acc) more)

clean_decimal : (n : ℕ) → is_clean (decimal n) ≡ true
unfolding digits
clean_decimal n = clean_digits 64 n [] refl

-- ---- lines

line_ahead : (l c : List ℕ) → is_clean l ≡ true → lines_of (l ++ 10 ∷ c) ≡ l ∷ lines_of c
unfolding lines_of
line_ahead l c clean = grind (arith, common_steps, slice_split_at, All-from_recursion, one_line, ended-cons, some_part)

-- a line, and what follows it
text_ahead : (l c : List ℕ) → is_clean l ≡ true → lines_of ((l ++ 10 ∷ []) ++ c) ≡ l ∷ lines_of c
text_ahead l c clean = ap lines_of (append_assoc l (10 ∷ []) c) ∙ line_ahead l c clean

four_lines : (a b d e rest : List ℕ) → is_clean a ≡ true → is_clean b ≡ true → is_clean d ≡ true → is_clean e ≡ true →
    lines_of ((((a ++ 10 ∷ []) ++ (b ++ 10 ∷ [])) ++ (d ++ 10 ∷ [])) ++ ((e ++ 10 ∷ []) ++ rest))
    ≡ a ∷ b ∷ d ∷ e ∷ lines_of rest
four_lines a b d e rest p q r s = grind (arith, common_steps, lines_of, text_ahead)

-- ---- what a report says

abbrev verdict_word : Verdict → List ℕ
verdict_word verdict.Yes = codes "verdict yes"
verdict_word (verdict.No lines) = codes "verdict no"

-- the opening lines, for a digest that is spelled so
abbrev line_opening : List ℕ → ℕ → List ℕ
line_opening digest count = (line_text (codes "bbmcheck") (codes "1" ∷ [])
    ++ line_text (codes "certificate") (digest ∷ [])) ++ line_text (codes "modules") (decimal count ∷ [])

fourth_by : (digest : List ℕ) (count : ℕ) (times : List TimeLine) (v : Verdict) → is_clean digest ≡ true →
    slice_get (lines_of (line_opening digest count ++ verdict_lines times v)) 3 ≡ Some (verdict_word v)
fourth_by digest count times verdict.Yes clean = ap (λ ls. slice_get ls 3)
    (four_lines (codes "bbmcheck 1") (codes "certificate" ++ flat_map space_and_word (digest ∷ []))
    (codes "modules" ++ flat_map space_and_word (decimal count ∷ [])) (codes "verdict yes")
    (flat_map (λ t. report_line_text (timing_report_line t)) times)
    refl (ap is_clean (append-nil digest) ∙ clean)
    (ap is_clean (append-nil (decimal count)) ∙ clean_decimal count) refl)
fourth_by digest count times (verdict.No lines) clean = ap (λ ls. slice_get ls 3)
    (four_lines (codes "bbmcheck 1") (codes "certificate" ++ flat_map space_and_word (digest ∷ []))
    (codes "modules" ++ flat_map space_and_word (decimal count ∷ [])) (codes "verdict no")
    (flat_map report_line_text lines.items)
    refl (ap is_clean (append-nil digest) ∙ clean)
    (ap is_clean (append-nil (decimal count)) ∙ clean_decimal count) refl)

pub fourth_line : (c : CertView) (v : Verdict) → slice_get (lines_of (report_text c v)) 3 ≡ Some (verdict_word v)
unfolding report_text
fourth_line c v = simp (fourth_by, clean_hex)

-- the fourth line is the fourth part, and more parts follow it
from_parts : (parts : List (List ℕ)) (w : List ℕ) → (slice_get parts 3 ≡ Some w) × (4 < length parts) →
    slice_get (ended_parts parts) 3 ≡ Some w
from_parts (a ∷ b ∷ c ∷ d ∷ e ∷ parts) w h = h.0
from_parts _ w h = absurd (let e = h.1 in omega (arith, e))

to_parts : (parts : List (List ℕ)) (w : List ℕ) → slice_get (ended_parts parts) 3 ≡ Some w →
    (slice_get parts 3 ≡ Some w) × (4 < length parts)
to_parts (a ∷ b ∷ c ∷ d ∷ e ∷ parts) w h = (h, omega arith)
to_parts _ w h = absurd cc

-- the fourth line of an output
abbrev HasYes : List ℕ → Type 0
HasYes output = slice_get (lines_of output) 3 ≡ Some (codes "verdict yes")

has_yes : (output : List ℕ) → FourthLineSaysYes output → HasYes output
unfolding lines_of
has_yes output h = from_parts (slice_split is_line_feed output) (codes "verdict yes") h

pub says_yes_by_line : (output : List ℕ) → HasYes output → FourthLineSaysYes output
unfolding lines_of
says_yes_by_line output h = to_parts (slice_split is_line_feed output) (codes "verdict yes") h

yes_is_not_no : ◌≡◌ {A = Option (List ℕ)} (Some (codes "verdict no")) (Some (codes "verdict yes")) → ⊥
yes_is_not_no e = cc

-- a report that says yes is one of a yes
pub says_yes : (c : CertView) (v : Verdict) → FourthLineSaysYes (report_text c v) → v ≡ verdict.Yes
says_yes c verdict.Yes e = refl
says_yes c (verdict.No lines) e =
    absurd (yes_is_not_no (sym (fourth_line c (verdict.No lines)) ∙ has_yes (report_text c (verdict.No lines)) e))

pub yes_says : (c : CertView) → FourthLineSaysYes (report_text c verdict.Yes)
yes_says c = says_yes_by_line (report_text c verdict.Yes) (fourth_line c verdict.Yes)

-- and the line for a refusal does not say yes
abbrev refused : Refusal → List ℕ
refused r = codes "refused" ++ flat_map space_and_word (decimal r.line ∷ decimal r.code ∷ [])

clean_refused : (r : Refusal) → is_clean (refused r) ≡ true
clean_refused r = grind (arith, common_steps, list_all-append, clean_decimal)

none_is_no_yes : (l : List ℕ) → slice_get (l ∷ lines_of []) 3 ≡ Some (codes "verdict yes") → ⊥
unfolding lines_of
none_is_no_yes l e = cc

pub refusal_says_none : (r : Refusal) → FourthLineSaysYes (refusal_line r) → ⊥
refusal_says_none r e = none_is_no_yes (refused r)
    (sym (ap (λ ls. slice_get ls 3) (line_ahead (refused r) [] (clean_refused r))) ∙ has_yes (refusal_line r) e)

-- ---- the front of a text

record Grown (parts more : List (List ℕ)) : Type 0 where
  pub others : List (List ℕ)
  pub are : ended_parts more ≡ ended_parts parts ++ others

grow : (x : ℕ) (parts more : List (List ℕ)) → 0 < length parts → Grown parts more →
    Grown (onto_first x parts) (onto_first x more)
grow x [] more h g = absurd (omega (arith, h))
grow x (p ∷ []) more h g = record { others = ended_parts (onto_first x more); are = refl }
grow x (p ∷ p' ∷ parts) [] h g = absurd (let e = g.are in cc)
grow x (p ∷ p' ∷ parts) (q ∷ []) h g = absurd (let e = g.are in cc)
grow x (p ∷ p' ∷ parts) (q ∷ q' ∷ more) h g = grind (arith, common_steps)

grown : (front rest : List ℕ) → Grown (slice_split is_line_feed front) (slice_split is_line_feed (front ++ rest))
grown [] rest = record { others = ended_parts (slice_split is_line_feed rest); are = refl }
grown (x ∷ front) rest = by_feed (is_line_feed x) (grown front rest)
  where
    by_feed : (t : Bool) → Grown (slice_split is_line_feed front) (slice_split is_line_feed (front ++ rest)) →
        Grown (cond t ([] ∷ slice_split is_line_feed front) (onto_first x (slice_split is_line_feed front)))
        (cond t ([] ∷ slice_split is_line_feed (front ++ rest))
        (onto_first x (slice_split is_line_feed (front ++ rest))))
    by_feed true g = grind (arith, common_steps, ended-cons, some_part)
    by_feed false g = grow x (slice_split is_line_feed front) (slice_split is_line_feed (front ++ rest))
        (some_part front) g

-- what says yes, says it whatever follows
has_on : (front rest : List ℕ) → HasYes front → HasYes (front ++ rest)
unfolding lines_of
has_on front rest e =
    let g = grown front rest in
    ap (λ ls. slice_get ls 3) g.are
    ∙ kept (ended_parts (slice_split is_line_feed front)) g.others 3 (codes "verdict yes") e

pub says_on : (front rest : List ℕ) → FourthLineSaysYes front → FourthLineSaysYes (front ++ rest)
says_on front rest e = says_yes_by_line (front ++ rest) (has_on front rest (has_yes front e))

pub fourth_line_is_line : SaysYesMeansFourthLine
fourth_line_is_line output = (has_yes output, says_yes_by_line output)
