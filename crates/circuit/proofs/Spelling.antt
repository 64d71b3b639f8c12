-- Each line of the circuit section is the spelling of its form.
use Rattle.circuit.proofs.Imports.{Bool, CircuitLine, Cswap, Delay, End, Fredkin, GateKind, Header, Interact, Item}
use Rattle.circuit.proofs.Imports.{Line, List, None, Option, Some, Source, Switch, Uninteract, Unswitch, [], ap, arith}
use Rattle.circuit.proofs.Imports.{chosen, codes, common_steps, cond, cond_some, defines, entry, entry_text, eqb}
use Rattle.circuit.proofs.Imports.{eqb-true, form_of, form_text, gate_entry, gate_kind, gate_line_of_kind, if_one_word}
use Rattle.circuit.proofs.Imports.{inl, inr, is_word_at, length, name_after_keyword, names_at, option_and_then_some}
use Rattle.circuit.proofs.Imports.{passed, same_Some, slice_get, subst, take, true, uses, words_before_names, words_of}
use Rattle.circuit.proofs.Imports.{ℕ, ◌+◌, ◌>>=◌, ◌∷◌, ◌≡◌}
use Rattle.lemmas.proofs.Common.{decimal}
use Rattle.section_text.specs.Words.{number_at}
use Rattle.section_text.specs.Section.{with_line_feed}
use Rattle.section_text.proofs.WordPlaces.{is_at_is, name_at_is, names_at_are, assembled, line_from_words}
use Rattle.circuit.specs.declared.circuit_line.CircuitLineKind.TheVariants.{Gate}
use Rattle.section_text.proofs.Spellings.{one_word, two_words, number_at_spelled}
use Rattle.circuit.specs.Forms.{bit_at}
use Rattle.circuit.specs.Text.{bit_word, gate_word, gate_parameter_words, first_word, words_after_first}
use Rattle.circuit.specs.Text.{words_after_keyword}

-- the first word of a form, and the others
first_of : Line → List ℕ
first_of (Header h) = codes "circuit"
first_of (Item r) = first_word r.kind
first_of End = codes "end"

others_of : Line → List (List ℕ)
others_of (Item r) = words_after_keyword r
others_of _ = []

take_one : (ws : List (List ℕ)) (w : List ℕ) → slice_get ws 0 ≡ Some w → take 1 ws ≡ w ∷ []
take_one ws w h1 = grind (arith, common_steps)

take_two : (ws : List (List ℕ)) (v w : List ℕ) → slice_get ws 0 ≡ Some v → slice_get ws 1 ≡ Some w →
    take 2 ws ≡ v ∷ w ∷ []
take_two ws v w h1 h2 = grind (arith, common_steps)

lone_spelled : (ws : List (List ℕ)) (w : List ℕ) (f g : Line) → is_word_at ws 0 w ≡ true → if_one_word ws f ≡ Some g →
    (ws ≡ w ∷ []) × (f ≡ g)
unfolding if_one_word
lone_spelled ws w f g at e = grind (arith, common_steps, cond_some, one_word, eqb-true, is_at_is)

pub named_spelled : (ws : List (List ℕ)) (w n : List ℕ) → is_word_at ws 0 w ≡ true → name_after_keyword ws ≡ Some n →
    ws ≡ w ∷ n ∷ []
unfolding name_after_keyword
named_spelled ws w n at e = grind (arith, common_steps, passed, two_words, eqb-true, is_at_is, name_at_is)

bit_spelled : (ws : List (List ℕ)) (i : ℕ) (b : Bool) → bit_at ws i ≡ Some b → slice_get ws i ≡ Some (bit_word b)
unfolding bit_at
bit_spelled ws i b e = grind (arith, common_steps, chosen, is_at_is, same_Some, cond_some)

-- the head of a gate line
abbrev HeadIs : List (List ℕ) → GateKind → Type 0
HeadIs ws kind = take (words_before_names kind) ws ≡ gate_word kind ∷ gate_parameter_words kind

plain_head : (ws : List (List ℕ)) (x kind : GateKind) → ◌≡◌ {A = Option GateKind} (Some x) (Some kind) → HeadIs ws x →
    HeadIs ws kind
plain_head ws x kind e h = subst (HeadIs ws) (same_Some x kind e) h

head_spelled : (ws : List (List ℕ)) (kind : GateKind) → gate_kind ws ≡ Some kind → HeadIs ws kind
unfolding gate_kind
head_spelled ws kind e =
    elim (chosen (is_word_at ws 0 (codes "source")) _ _ (Some kind) e) [
      | inl p ↦ option_and_then_some (λ b. Some (Source b)) (bit_at ws 1) kind p.1
          (λ b bit made. plain_head ws (Source b) kind made
          (take_two ws (codes "source") (bit_word b) (is_at_is ws 0 (codes "source") p.0) (bit_spelled ws 1 b bit)))
      | inr p ↦ elim (chosen (is_word_at ws 0 (codes "fredkin")) _ _ (Some kind) p.1) [
        | inl q ↦ plain_head ws Fredkin kind q.1 (take_one ws (codes "fredkin") (is_at_is ws 0 (codes "fredkin") q.0))
        | inr q ↦ elim (chosen (is_word_at ws 0 (codes "cswap")) _ _ (Some kind) q.1) [
          | inl r ↦ plain_head ws Cswap kind r.1 (take_one ws (codes "cswap") (is_at_is ws 0 (codes "cswap") r.0))
          | inr r ↦ elim (chosen (is_word_at ws 0 (codes "interact")) _ _ (Some kind) r.1) [
            | inl s ↦ plain_head ws Interact kind s.1
                (take_one ws (codes "interact") (is_at_is ws 0 (codes "interact") s.0))
            | inr s ↦ elim (chosen (is_word_at ws 0 (codes "switch")) _ _ (Some kind) s.1) [
              | inl t ↦ plain_head ws Switch kind t.1
                  (take_one ws (codes "switch") (is_at_is ws 0 (codes "switch") t.0))
              | inr t ↦ elim (chosen (is_word_at ws 0 (codes "delay")) _ _ (Some kind) t.1) [
                | inl u ↦ option_and_then_some (λ n. Some (Delay n)) (number_at ws 1) kind u.1
                    (λ n number made. plain_head ws (Delay n) kind made
                    (take_two ws (codes "delay") (decimal n) (is_at_is ws 0 (codes "delay") u.0)
                    (number_at_spelled ws 1 n number)))
                | inr u ↦ elim (chosen (is_word_at ws 0 (codes "unswitch")) _ _ (Some kind) u.1) [
                  | inl v ↦ plain_head ws Unswitch kind v.1
                      (take_one ws (codes "unswitch") (is_at_is ws 0 (codes "unswitch") v.0))
                  | inr v ↦
                      let found = passed (is_word_at ws 0 (codes "uninteract")) (Some Uninteract) kind v.1 in
                      plain_head ws Uninteract kind found.1
                      (take_one ws (codes "uninteract") (is_at_is ws 0 (codes "uninteract") found.0))
                ]
              ]
            ]
          ]
        ]
      ]
    ]

-- a gate's entry
gate_spelled : (ws : List (List ℕ)) (r : CircuitLine) → gate_entry ws ≡ Some r →
    ws ≡ first_word r.kind ∷ words_after_keyword r
unfolding gate_entry gate_line_of_kind first_word words_after_keyword
gate_spelled ws r e =
    option_and_then_some (λ kind.
    cond (eqb (length ws) (words_before_names kind + uses kind + 1 + defines kind))
    (cond (is_word_at ws (words_before_names kind + uses kind) (codes "->")) (gate_line_of_kind ws kind) None) None)
    (gate_kind ws) r e (λ kind known rest.
    let count = passed (eqb (length ws) (words_before_names kind + uses kind + 1 + defines kind))
    (cond (is_word_at ws (words_before_names kind + uses kind) (codes "->")) (gate_line_of_kind ws kind) None) r rest in
    let arrow = passed (is_word_at ws (words_before_names kind + uses kind) (codes "->"))
    (gate_line_of_kind ws kind) r count.1 in
    option_and_then_some (λ ins. names_at ws (words_before_names kind + uses kind + 1)
    (defines kind) >>= λ outs. Some (entry (Gate kind) ins outs))
    (names_at ws (words_before_names kind) (uses kind)) r arrow.1 (λ ins some_ins rest_ins.
    option_and_then_some (λ outs. Some (entry (Gate kind) ins outs))
    (names_at ws (words_before_names kind + uses kind + 1) (defines kind)) r rest_ins
    (λ outs some_outs made.
    let whole = assembled ws (gate_word kind ∷ gate_parameter_words kind) ins outs (codes "->")
    (words_before_names kind)
    (uses kind) (defines kind) (head_spelled ws kind known) (names_at_are ws _ _ ins some_ins)
    (is_at_is ws _ (codes "->") arrow.0) (names_at_are ws _ _ outs some_outs) (eqb-true _ _ count.0) in
    subst (λ (x : CircuitLine). ws ≡ first_word x.kind ∷ words_after_first x.ins x.outs x.kind)
    (same_Some (entry (Gate kind) ins outs) r made) whole)))

abbrev SpelledAs : List (List ℕ) → Line → Type 0
SpelledAs ws f = ws ≡ first_of f ∷ others_of f

form_words : (ws : List (List ℕ)) (f : Line) → form_of ws ≡ Some f → SpelledAs ws f
unfolding form_of first_of others_of first_word words_after_keyword
form_words ws f e =
    elim (chosen (is_word_at ws 0 (codes "circuit")) _ _ (Some f) e) [
      | inl p ↦ let a = lone_spelled ws (codes "circuit") (Header tt) f p.0 p.1 in subst (SpelledAs ws) a.1 a.0
      | inr p ↦ elim (chosen (is_word_at ws 0 (codes "end")) _ _ (Some f) p.1) [
        | inl q ↦ let a = lone_spelled ws (codes "end") End f q.0 q.1 in subst (SpelledAs ws) a.1 a.0
        | inr q ↦ grind (arith, common_steps, chosen, option_and_then_some, same_Some, named_spelled, gate_spelled)
      ]
    ]

pub form_line : (l : List ℕ) (f : Line) → form_of (words_of l) ≡ Some f → with_line_feed l ≡ form_text f
unfolding first_of others_of entry_text
form_line l (Header h) e = ap with_line_feed
    (line_from_words l (codes "circuit") [] (form_words (words_of l) (Header h) e))
form_line l (Item r) e = ap with_line_feed
    (line_from_words l (first_word r.kind) (words_after_keyword r) (form_words (words_of l) (Item r) e))
form_line l End e = ap with_line_feed (line_from_words l (codes "end") [] (form_words (words_of l) End e))
