-- The lines of a good circuit can be written, if its wires have names
use Rattle.headline.proofs.Imports.{AllByRecursion, AreGoodAfter, CircuitLine, Delay, End, Gate, GateKind}
use Rattle.headline.proofs.Imports.{HasNameCountOfKind, Have, Header, Input, Item, List, None, Output, Some, Source}
use Rattle.headline.proofs.Imports.{Spill, [], and_parts, ap, ap₂, arith, bytes_eq, bytes_eq-Decides, cases_Bool, codes}
use Rattle.headline.proofs.Imports.{common_steps, cond, cond_some, consume_have, consumed, decimal, defined, defines}
use Rattle.headline.proofs.Imports.{entry, false, false≢true, form_of, gate_entry, gate_line_of_kind, has, if_one_word}
use Rattle.headline.proofs.Imports.{inl, inr, is_name, is_word_at, length, limit_or_name_code, list_all}
use Rattle.headline.proofs.Imports.{name_after_keyword, name_at, name_of, names_at, names_pass, nat_tests}
use Rattle.headline.proofs.Imports.{no_code_first, number_at, number_of, number_written, refl, slice_get, subst, sym}
use Rattle.headline.proofs.Imports.{true, ℕ, ◌&&◌, ◌++◌, ◌+◌, ◌<◌, ◌==◌, ◌>>=◌, ◌^◌, ◌||◌, ◌∙◌, ◌∷◌, ◌≡◌}
use Rattle.lemmas.proofs.Common.{left_is_false}
use Rattle.section_text.specs.Words.{is_number}
use Rattle.circuit.specs.Forms.{bit_at, gate_kind, words_before_names}
use Rattle.circuit.specs.Gates.{uses}
use Rattle.circuit.specs.Rules.{is_wrong_delay}
use Rattle.circuit.specs.Text.{gate_parameter_words, gate_word}
use Rattle.circuit.specs.declared.circuit_line.CircuitLineKind.{CircuitLineKind}
use Rattle.pattern.proofs.Added.{no_code}
use Rattle.headline.proofs.Written.{HasLine, HasSection, IsWord, digits_word, has_section, line_by, name_word}

-- ---- names and numbers

abbrev pub AreNames : List (List ℕ) → Type 0
AreNames ns = list_all is_name ns ≡ true

pub named : (n : List ℕ) → is_name n ≡ true → name_of n ≡ Some n
unfolding name_of
named n h = ap (λ b. cond b (Some n) None) h

pub names_words : (ns : List (List ℕ)) → AreNames ns → AllByRecursion IsWord ns
names_words [] h = tt
names_words (n ∷ ns) h = grind (arith, name_word, (names_words ns (and_parts (is_name n) (list_all is_name ns) h).1))

number_word : (w : List ℕ) → is_number w ≡ true → IsWord w
number_word [] h = absurd (false≢true h)
number_word (b ∷ bs) h = grind (arith, common_steps, and_parts, digits_word)

pub decimal_word : (n : ℕ) → n < 10 ^ 9 → IsWord (decimal n)
unfolding number_of
decimal_word n small = number_word (decimal n) (cond_some (is_number (decimal n)) _ n (number_written n small)).0

pub names_left : (xs ys : List (List ℕ)) → AreNames (xs ++ ys) → AreNames xs
names_left [] ys h = refl
names_left (x ∷ xs) ys h = grind (arith, (names_left xs ys (and_parts (is_name x) (list_all is_name (xs ++ ys)) h).1))

pub names_right : (xs ys : List (List ℕ)) → AreNames (xs ++ ys) → AreNames ys
names_right [] ys h = h
names_right (x ∷ xs) ys h = names_right xs ys (and_parts (is_name x) (list_all is_name (xs ++ ys)) h).1

pub names_both : (xs ys : List (List ℕ)) → AreNames xs → AreNames ys → AreNames (xs ++ ys)
names_both [] ys h k = k
names_both (x ∷ xs) ys h k = grind (arith, (names_both xs ys (and_parts (is_name x) (list_all is_name xs) h).1 k))

pub has_name : (d : List (List ℕ)) (n : List ℕ) → AreNames d → has d n ≡ true → is_name n ≡ true
has_name [] n all h = absurd (false≢true h)
has_name (m ∷ d) n all h =
    let both = and_parts (is_name m) (list_all is_name d) all in
    elim (cases_Bool (bytes_eq n m)) [
      | inl same ↦ subst (λ k. is_name k ≡ true) (sym ((bytes_eq-Decides n m).0 same)) both.0
      | inr other ↦ has_name d n both.1 (sym (ap (λ b. b || has d n) other) ∙ h)
    ]

pub have_names : (d ns : List (List ℕ)) → AreNames d → Have d ns → AreNames ns
have_names d [] all h = refl
have_names d (n ∷ ns) all h = ap₂ (λ a b. a && b) (has_name d n all h.0) (have_names d ns all h.1)

-- ---- words at places

at_seam : (pre post : List (List ℕ)) (w : List ℕ) → slice_get (pre ++ w ∷ post) (length pre) ≡ Some w
at_seam [] post w = refl
at_seam (x ∷ pre) post w = at_seam pre post w

names_here : (pre ns post : List (List ℕ)) → AreNames ns → names_at (pre ++ (ns ++ post)) (length pre) (length ns)
    ≡ Some ns
unfolding names_at name_at
names_here pre [] post h = refl
names_here pre (n ∷ ns) post h =
    grind (
      arith,
      common_steps,
      at_seam,
      named,
      (names_here (pre ++ n ∷ []) ns post (and_parts (is_name n) (list_all is_name ns) h).1),
    )

-- ---- gates

delay_small : (n : ℕ) → is_wrong_delay (Gate (Delay n)) ≡ false → n < 10 ^ 9
delay_small n h = grind (arith, nat_tests, h)

-- a number of the kind has at most nine digits
abbrev pub IsShort : CircuitLineKind → Type 0
IsShort kind = (n : ℕ) → kind ≡ Gate (Delay n) → n < 10 ^ 9

pub is_short : (kind : CircuitLineKind) → is_wrong_delay kind ≡ false → IsShort kind
is_short kind h n e = delay_small n (subst (λ k. is_wrong_delay k ≡ false) e h)

kind_read : (k : GateKind) (rest : List (List ℕ)) → IsShort (Gate k) →
    gate_kind (gate_word k ∷ (gate_parameter_words k ++ rest)) ≡ Some k
unfolding gate_kind bit_at is_word_at number_at
kind_read (Source true) rest h = refl
kind_read (Delay n) rest h = ap (λ o. o >>= λ m. Some (Delay m)) (number_written n (h n refl))
kind_read _ rest h = refl

head_length : (k : GateKind) → length (gate_word k ∷ gate_parameter_words k) ≡ words_before_names k
head_length k = grind (arith, common_steps)

gate_form : (k : GateKind) (rest : List (List ℕ)) →
    form_of (gate_word k ∷ rest) ≡ (gate_entry (gate_word k ∷ rest) >>= λ r. Some (Item r))
unfolding form_of is_word_at
gate_form k rest = grind (arith, common_steps)

head_words : (k : GateKind) → IsShort (Gate k) → IsWord (gate_word k) × AllByRecursion IsWord (gate_parameter_words k)
head_words (Source true) h = (refl, (refl, tt))
head_words (Source false) h = (refl, (refl, tt))
head_words (Delay n) h = (refl, (decimal_word n (h n refl), tt))
head_words _ h = (refl, tt)

words_both : (xs ys : List (List ℕ)) → AllByRecursion IsWord xs → AllByRecursion IsWord ys →
    AllByRecursion IsWord (xs ++ ys)
words_both [] ys h k = k
words_both (x ∷ xs) ys h k = (h.0, words_both xs ys h.1 k)

module _ (k : GateKind) (ins outs : List (List ℕ)) (fits : HasNameCountOfKind (entry (Gate k) ins outs))
    (in_names : AreNames ins)
    (out_names : AreNames outs) (right : IsShort (Gate k)) where
  abbrev head : List (List ℕ)
  head = gate_word k ∷ gate_parameter_words k

  abbrev arrow : List ℕ
  arrow = codes "->"

  abbrev ws : List (List ℕ)
  ws = gate_word k ∷ (gate_parameter_words k ++ (ins ++ arrow ∷ outs))

  count : (length ws == words_before_names k + uses k + 1 + defines k) ≡ true
  count = grind (arith, common_steps, head_length)

  arrow_at : is_word_at ws (words_before_names k + uses k) arrow ≡ true
  unfolding is_word_at
  arrow_at = grind (arith, common_steps, (head_length k), (at_seam (head ++ ins) outs arrow))

  ins_read : names_at ws (words_before_names k) (uses k) ≡ Some ins
  ins_read = ap₂ (names_at ws) (sym (head_length k)) (sym fits.0) ∙ names_here head ins (arrow ∷ outs) in_names

  outs_read : names_at ws (words_before_names k + uses k + 1) (defines k) ≡ Some outs
  outs_read = grind (arith, common_steps, (head_length k), (names_here (head ++ (ins ++ arrow ∷ [])) outs [] out_names))

  entry_read : gate_entry ws ≡ Some (entry (Gate k) ins outs)
  unfolding gate_entry gate_line_of_kind
  entry_read = grind (arith, common_steps, kind_read, count, arrow_at, ins_read, outs_read)

  gate_line : HasLine form_of (Item (entry (Gate k) ins outs))
  gate_line =
      let words = head_words k right in
      grind (arith, common_steps, line_by, words_both, names_words, gate_form, entry_read)

-- ---- the other lines

lone_line : (w n : List ℕ) (r : CircuitLine) → IsWord w → is_name n ≡ true →
    form_of (w ∷ n ∷ []) ≡ Some (Item r) → HasLine form_of (Item r)
lone_line w n r h k e = line_by form_of (Item r) w (n ∷ []) h (name_word n k, tt) e

first_of : (n : List ℕ) (ns : List (List ℕ)) → AreNames (n ∷ ns) → is_name n ≡ true
first_of n ns h = (and_parts (is_name n) (list_all is_name ns) h).0

pub line_of : (kind : CircuitLineKind) (ins outs : List (List ℕ)) → HasNameCountOfKind (entry kind ins outs) →
    AreNames ins → AreNames outs → IsShort kind → HasLine form_of (Item (entry kind ins outs))
unfolding form_of is_word_at name_after_keyword name_at
line_of (Gate k) ins outs fits i o right = gate_line k ins outs fits i o right
line_of Input [] (n ∷ []) fits i o right = lone_line (codes "input") n _ refl (first_of n [] o)
    (ap (λ o. o >>= λ m. Some (Item (entry Input [] (m ∷ [])))) (named n (first_of n [] o)))
line_of Input (x ∷ ins) outs fits i o right = absurd (let e = fits.0 in omega (arith, e))
line_of Input [] [] fits i o right = absurd (let e = fits.1 in omega (arith, e))
line_of Input [] (n ∷ m ∷ outs) fits i o right = absurd (let e = fits.1 in omega (arith, e))
line_of Output (n ∷ []) [] fits i o right = lone_line (codes "output") n _ refl (first_of n [] i)
    (ap (λ o. o >>= λ m. Some (Item (entry Output (m ∷ []) []))) (named n (first_of n [] i)))
line_of Output (n ∷ m ∷ ins) outs fits i o right = absurd (let e = fits.0 in omega (arith, e))
line_of Output (n ∷ []) (x ∷ outs) fits i o right = absurd (let e = fits.1 in omega (arith, e))
line_of Spill (n ∷ []) [] fits i o right = lone_line (codes "spill") n _ refl (first_of n [] i)
    (ap (λ o. o >>= λ m. Some (Item (entry Spill (m ∷ []) []))) (named n (first_of n [] i)))
line_of Spill (n ∷ m ∷ ins) outs fits i o right = absurd (let e = fits.0 in omega (arith, e))
line_of Spill (n ∷ []) (x ∷ outs) fits i o right = absurd (let e = fits.1 in omega (arith, e))
line_of _ [] outs fits i o right = absurd (let e = fits.0 in omega (arith, e))

-- ---- the section

pub right_delay : (before : List CircuitLine) (r : CircuitLine) → limit_or_name_code before r ≡ None →
    is_wrong_delay r.kind ≡ false
unfolding limit_or_name_code
right_delay before r e = grind (arith, common_steps, left_is_false, no_code, no_code_first)

pub defined_more : (before : List CircuitLine) (r : CircuitLine) → AreNames (defined before) → AreNames r.outs →
    AreNames (defined (before ++ r ∷ []))
defined_more [] r h k = names_both r.outs [] k refl
defined_more (b ∷ before) r h k = grind (arith, common_steps, names_both, names_left, names_right)

lines_of : (before rest : List CircuitLine) → AreGoodAfter before rest → AreNames (defined before) →
    AreNames (defined rest) → AllByRecursion (λ r. HasLine form_of (Item r)) rest
unfolding AreGoodAfter
lines_of before [] good h k = tt
lines_of before (r ∷ rest) good h k =
    let outs = names_left r.outs (defined rest) k in
    let ins : AreNames r.ins = have_names (defined before) r.ins h
    (consume_have (defined before) (consumed before) r.ins (names_pass before r good.0.adds).0) in (
      line_of r.kind r.ins r.outs good.0.fits ins outs (is_short r.kind (right_delay before r good.0.adds)),
      lines_of (before ++ r ∷ []) rest good.1 (defined_more before r h outs) (names_right r.outs (defined rest) k),
    )

pub first_line : HasLine form_of (Header tt)
unfolding form_of if_one_word is_word_at
first_line = line_by form_of (Header tt) (codes "circuit") [] refl tt refl

pub last_line : HasLine form_of End
unfolding form_of if_one_word is_word_at
last_line = line_by form_of End (codes "end") [] refl tt refl

pub circuit_written : (circuit : List CircuitLine) → AreGoodAfter [] circuit → AreNames (defined circuit) →
    HasSection form_of tt circuit
circuit_written circuit good h = grind (arith, common_steps, has_section, first_line, last_line, lines_of)
