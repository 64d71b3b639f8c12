-- Each line of the certificate section is the spelling of its form.
use Rattle.certificate.proofs.Imports.{BorderLine, Cut, Edge, End, Halo, Header, Item, Keep, List, Module, Option, Some}
use Rattle.certificate.proofs.Imports.{Stop, StopLine, Use, [], arith, codes, common_steps, eqb, eqb-true, form_text}
use Rattle.certificate.proofs.Imports.{length, same_Some, slice_get, subst, true, ℕ, ◌∷◌, Bool, if◌then◌else◌, ◌≡◌}
use Rattle.pattern.specs.Forms.{cell_of_words_from}
use Rattle.lemmas.proofs.Common.{decimal, option_and_then_some}
use Rattle.section_text.specs.Words.{if_one_word, is_word_at, name_at, number_after_keyword, number_at, words_of, ◌>>=◌}
use Rattle.section_text.specs.Section.{with_line_feed}
use Rattle.section_text.specs.Spelling.{line_text}
use Rattle.section_text.proofs.Spellings.{chosen, passed, number_at_spelled, one_word, two_words, five_words}
use Rattle.section_text.proofs.WordPlaces.{is_at_is, name_at_is, line_from_words}
use Rattle.pattern.specs.Text.{natural_or_zero, box_words}
use Rattle.certificate_lines.specs.Forms.{CertificateForm, border_of, border_of_five_words, form_of}
use Rattle.certificate_lines.specs.Forms.{one_or_name_at_word, star_or_time_at_word, stop_of, stop_of_five_words}
use Rattle.pattern.proofs.Spelling.{cell_spelled, box_spelled}
use Rattle.certificate.specs.Text.{star_or_time_word, one_or_name_word, border_words, stop_words}
use Rattle.circuit.proofs.Spelling.{named_spelled}

time_spelled : (ws : List (List ℕ)) (i : ℕ) (t : Option ℕ) → star_or_time_at_word ws i ≡ Some t →
    slice_get ws i ≡ Some (star_or_time_word t)
unfolding star_or_time_at_word
time_spelled ws i t e =
    grind (arith, common_steps, chosen, same_Some, is_at_is, option_and_then_some, number_at_spelled)

signal_spelled : (ws : List (List ℕ)) (i : ℕ) (s : Option (List ℕ)) → one_or_name_at_word ws i ≡ Some s →
    slice_get ws i ≡ Some (one_or_name_word s)
unfolding one_or_name_at_word
signal_spelled ws i s e = grind (arith, common_steps, chosen, same_Some, is_at_is, option_and_then_some, name_at_is)

border_spelled : (ws : List (List ℕ)) (v : List ℕ) (b : BorderLine) → is_word_at ws 0 v ≡ true → border_of ws ≡ Some b →
    ws ≡ v ∷ border_words b
unfolding border_of border_of_five_words
border_spelled ws v b at e =
    let found = passed (eqb (length ws) 5) (border_of_five_words ws) b e in
    option_and_then_some (λ t. cell_of_words_from ws 2 >>= λ c. one_or_name_at_word ws 4 >>= λ s.
    Some (record { time = t; cell = c; signal = s })) (star_or_time_at_word ws 1) b found.1 (λ t timed rest.
    option_and_then_some (λ c. one_or_name_at_word ws 4 >>= λ s. Some (record { time = t; cell = c; signal = s }))
    (cell_of_words_from ws 2) b rest (λ c at_cell last.
    option_and_then_some (λ s. Some (record { time = t; cell = c; signal = s })) (one_or_name_at_word ws 4) b last
    (λ s signalled made.
    let place = cell_spelled ws 2 c at_cell in
    grind (arith, common_steps, same_Some, five_words, eqb-true, is_at_is, time_spelled, signal_spelled))))

stop_spelled : (ws : List (List ℕ)) (v : List ℕ) (s : StopLine) → is_word_at ws 0 v ≡ true → stop_of ws ≡ Some s →
    ws ≡ v ∷ stop_words s
unfolding stop_of stop_of_five_words
stop_spelled ws v s at e =
    let found = passed (eqb (length ws) 5) (stop_of_five_words ws) s e in
    option_and_then_some (λ t. name_at ws 2 >>= λ n. cell_of_words_from ws 3 >>= λ c.
    Some (record { time = t; wire = n; cell = c })) (number_at ws 1) s found.1 (λ t timed rest.
    option_and_then_some (λ n. cell_of_words_from ws 3 >>= λ c. Some (record { time = t; wire = n; cell = c }))
    (name_at ws 2) s rest (λ n named last.
    option_and_then_some (λ c. Some (record { time = t; wire = n; cell = c })) (cell_of_words_from ws 3) s last
    (λ c at_cell made.
    let place = cell_spelled ws 3 c at_cell in
    subst (λ (q : StopLine). ws ≡ v ∷ stop_words q) (same_Some (record { time = t; wire = n; cell = c }) s made)
    (five_words ws v (decimal t) n (decimal (natural_or_zero c.x)) (decimal (natural_or_zero c.y))
    (eqb-true _ _ found.0)
    (is_at_is ws 0 v at) (number_at_spelled ws 1 t timed) (name_at_is ws 2 n named) place.column place.row))))

number_spelled : (ws : List (List ℕ)) (v : List ℕ) (n : ℕ) → is_word_at ws 0 v ≡ true →
    number_after_keyword ws ≡ Some n → ws ≡ v ∷ decimal n ∷ []
unfolding number_after_keyword
number_spelled ws v n at e =
    let found = passed (eqb (length ws) 2) (number_at ws 1) n e in
    two_words ws v (decimal n) (eqb-true _ _ found.0) (is_at_is ws 0 v at) (number_at_spelled ws 1 n found.1)

-- the first word of a form, and the others
spelled : CertificateForm → List ℕ × List (List ℕ)
spelled (Header version) = (codes "certificate", decimal version ∷ [])
spelled (Item (Module b)) = (codes "module", box_words b)
spelled (Item (Cut n)) = (codes "cut", n ∷ [])
spelled (Item (Use k)) = (codes "use", decimal k ∷ [])
spelled (Item (Keep k)) = (codes "keep", decimal k ∷ [])
spelled (Item (Edge b)) = (codes "edge", border_words b)
spelled (Item (Halo b)) = (codes "halo", border_words b)
spelled (Item (Stop s)) = (codes "stop", stop_words s)
spelled End = (codes "end", [])

abbrev SpelledAs : List (List ℕ) → CertificateForm → Type 0
SpelledAs ws f = ws ≡ (spelled f).0 ∷ (spelled f).1

by_test : {Q : Type 0} (b : Bool) (x y : Option CertificateForm) (f : CertificateForm) → (if b then x else y) ≡ Some f →
    (b ≡ true → x ≡ Some f → Q) → (y ≡ Some f → Q) → Q
by_test b x y f h1 h2 h3 = grind (arith, common_steps)

form_words : (ws : List (List ℕ)) (f : CertificateForm) → form_of ws ≡ Some f → SpelledAs ws f
unfolding form_of if_one_word spelled
form_words ws f e =
    by_test (is_word_at ws 0 (codes "edge")) _ _ f e
    (λ p is. grind (arith, common_steps, option_and_then_some, same_Some, border_spelled)) (λ e.
    by_test (is_word_at ws 0 (codes "halo")) _ _ f e
    (λ p is. grind (arith, common_steps, option_and_then_some, same_Some, border_spelled)) (λ e.
    by_test (is_word_at ws 0 (codes "stop")) _ _ f e
    (λ p is. grind (arith, common_steps, option_and_then_some, same_Some, stop_spelled)) (λ e.
    by_test (is_word_at ws 0 (codes "cut")) _ _ f e
    (λ p is. grind (arith, common_steps, option_and_then_some, same_Some, named_spelled)) (λ e.
    by_test (is_word_at ws 0 (codes "use")) _ _ f e
    (λ p is. grind (arith, common_steps, option_and_then_some, same_Some, number_spelled)) (λ e.
    by_test (is_word_at ws 0 (codes "keep")) _ _ f e
    (λ p is. grind (arith, common_steps, option_and_then_some, same_Some, number_spelled)) (λ e.
    by_test (is_word_at ws 0 (codes "module")) _ _ f e
    (λ p is. grind (arith, common_steps, option_and_then_some, same_Some, box_spelled)) (λ e.
    grind (
      arith,
      common_steps,
      chosen,
      option_and_then_some,
      same_Some,
      number_spelled,
      passed,
      one_word,
      eqb-true,
      is_at_is,
    ))))))))

text_of : (f : CertificateForm) → form_text f ≡ line_text (spelled f).0 (spelled f).1
unfolding spelled
text_of f = grind (arith, common_steps)

pub form_line : (l : List ℕ) (f : CertificateForm) → form_of (words_of l) ≡ Some f → with_line_feed l ≡ form_text f
form_line l f e = grind (arith, common_steps, text_of, line_from_words, spelled, form_words)
