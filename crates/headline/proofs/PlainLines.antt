-- The lines of the plain certificate of a design make a plain module
use Rattle.headline.proofs.Imports.{All, All-cons, All-nil, AreGoodCircuitLines, Bool, Box2, CertificateLine}
use Rattle.headline.proofs.Imports.{CircuitLine, Cut, IsGoodDesign, IsInputName, IsPlaced, IsPlainModule, Keep, List}
use Rattle.headline.proofs.Imports.{ModuleLines, Pattern, SaysPlainCertificate, Some, Use, [], add_line, and_parts}
use Rattle.headline.proofs.Imports.{any_at, ap, append-nil, append_assoc, ap₂, arith, bytes_same, cases_Bool}
use Rattle.headline.proofs.Imports.{common_steps, cuts, defined, edges, eq-eqb, eqb, eqb-true, false, filter, flat_map}
use Rattle.headline.proofs.Imports.{gate_numbers, has, input_names, inputs_are_first, is_among, is_inverse_gate}
use Rattle.headline.proofs.Imports.{is_module_line, list_all, map, modules_of, netlist_of, not, placed, plain_lines}
use Rattle.headline.proofs.Imports.{range_with_len, refl, slice_get, slice_get_within, subst, suc, sym, true, whole}
use Rattle.headline.proofs.Imports.{zero, ℕ, ◌&&◌, ◌++◌, ◌+◌, ◌<◌, ◌∙◌, ◌∷◌, ◌≡◌, ◌≤◌}
use Rattle.lemmas.proofs.Common.{fold, false_from_not}
use Rattle.certificate_lines.specs.Entries.{change_last, keeps}
use Rattle.headline.specs.PlainLaws.{PlainLinesTextIsDecided}
use Rattle.headline.proofs.PlainTexts.{plain_is_decided}
use Rattle.headline.proofs.YesIsRight.{good_designs}
use Rattle.soundness.proofs.KeptGates.{listed_later}

-- ---- lines that begin no module belong to the one before

one_more : (b : Box2) (ms : List CertificateLine) (i : CertificateLine) → is_module_line i ≡ false →
    add_line (record { area = b; lines = ms } ∷ []) i ≡ record { area = b; lines = ms ++ i ∷ [] } ∷ []
unfolding add_line change_last
one_more b ms i h1 = grind (arith, common_steps)

pub all_inner : (b : Box2) (ms ls : List CertificateLine) → list_all (λ i. not (is_module_line i)) ls ≡ true →
    fold add_line (record { area = b; lines = ms } ∷ []) ls ≡ record { area = b; lines = ms ++ ls } ∷ []
all_inner b ms [] h = ap (λ (l : List CertificateLine). (record { area = b; lines = l }) ∷ []) (sym (append-nil ms))
all_inner b ms (i ∷ ls) h =
    let both = and_parts (not (is_module_line i)) (list_all (λ i. not (is_module_line i)) ls) h in
    ap (λ s. fold add_line s ls) (one_more b ms i (false_from_not (is_module_line i) both.0))
    ∙ all_inner b (ms ++ i ∷ []) ls both.1
    ∙ ap (λ (l : List CertificateLine). (record { area = b; lines = l }) ∷ []) (append_assoc ms (i ∷ []) ls)

-- ---- lines of one kind after another

module _ {X : Type 0} (mk : X → CertificateLine) where
  pub all_mapped : ((x : X) → is_module_line (mk x) ≡ false) → (xs : List X) → list_all (λ i. not (is_module_line i))
      (map mk xs) ≡ true
  all_mapped h [] = refl
  all_mapped h (x ∷ xs) = ap₂ (λ a b. not a && b) (h x) (all_mapped h xs)

  pub none_of : {Y : Type 0} (f : CertificateLine → List Y) → ((x : X) → f (mk x) ≡ []) → (xs : List X) →
      flat_map f (map mk xs) ≡ []
  none_of f h [] = refl
  none_of f h (x ∷ xs) = ap₂ (λ a b. a ++ b) (h x) (none_of f h xs)

  pub own_of : (f : CertificateLine → List X) → ((x : X) → f (mk x) ≡ x ∷ []) → (xs : List X) →
      flat_map f (map mk xs) ≡ xs
  own_of f h [] = refl
  own_of f h (x ∷ xs) = ap₂ (λ a b. a ++ b) (h x) (own_of f h xs)

-- ---- numbers among those that pass a test

pub among_range : (n a k : ℕ) → a ≤ k → k < a + n → is_among (range_with_len a n) k ≡ true
among_range zero a k low high = absurd (omega (arith, low, high))
among_range (suc n) a k low high = grind (arith, common_steps, cases_Bool, listed_later, above, among_range n (a + 1) k)
  where
    above : eqb a k ≡ false → a + 1 ≤ k
    above other = grind (arith, low, other, eq-eqb a k)

among_filter : (test : ℕ → Bool) (xs : List ℕ) (k : ℕ) → is_among xs k ≡ true → test k ≡ true →
    is_among (filter test xs) k ≡ true
among_filter test [] k h t = h
among_filter test (x ∷ xs) k h t = grind (arith, common_steps, cases_Bool, eqb-true, by_test, among_filter test xs k)
  where
    by_test : (b : Bool) → test x ≡ b → is_among (filter test xs) k ≡ true → is_among (filter test (x ∷ xs)) k ≡ true
    by_test b h1 h2 = grind (arith, common_steps, listed_later)

-- ---- the plain module

module _ (circuit : List CircuitLine) (p : Pattern) (good : AreGoodCircuitLines circuit) where
  abbrev kept : List ℕ
  kept = filter (λ k. is_inverse_gate (slice_get (netlist_of circuit).gates k)) (gate_numbers circuit)

  abbrev cut_lines : List CertificateLine
  cut_lines = map Cut (input_names circuit)

  abbrev use_lines : List CertificateLine
  use_lines = map Use (gate_numbers circuit)

  abbrev keep_lines : List CertificateLine
  keep_lines = map Keep kept

  abbrev one : ModuleLines
  one = record { area = whole p.size; lines = cut_lines ++ use_lines ++ keep_lines }

  pub is_one : modules_of (plain_lines circuit p) ≡ one ∷ []
  unfolding modules_of add_line
  is_one = grind (arith, common_steps, all_inner, whole, all_mapped)

  its_cuts : cuts one ≡ input_names circuit
  its_cuts = grind (arith, common_steps, own_of, none_of)

  its_keeps : keeps one ≡ kept
  its_keeps = grind (arith, common_steps, none_of, own_of)

  its_edges : edges one ≡ []
  its_edges = grind (arith, common_steps, none_of)

  input_name : (k : ℕ) (n : List ℕ) → slice_get (input_names circuit) k ≡ Some n → IsInputName circuit n
  input_name k n at =
      let known : has (input_names circuit) n ≡ true = any_at _ (input_names circuit) k n at (bytes_same n) in
      let is : IsPlaced n (defined circuit) (netlist_of circuit).given =
      placed n (defined circuit) _ (ap (λ ns. has ns n) (inputs_are_first circuit good) ∙ known) in
      record { wire = is.place; named = is.is; is_given = is.early }

  all_inputs : (P : List ℕ → Type 0) (ns : List (List ℕ)) →
      ((k : ℕ) (n : List ℕ) → slice_get ns k ≡ Some n → P n) → All P ns
  all_inputs P [] h = All-nil P
  all_inputs P (n ∷ ns) h = All-cons P n ns (h 0 n refl) (all_inputs P ns (λ k. h (suc k)))

  is_plain : IsPlainModule circuit p one
  is_plain = record {
    box = refl;
    inputs = subst (All (IsInputName circuit)) (sym its_cuts)
        (all_inputs (IsInputName circuit) (input_names circuit) input_name);
    inverses = grind (arith, common_steps, its_keeps, among_filter, slice_get, among_range, slice_get_within);
    no_edge = its_edges;
  }

pub plain_lines_decide : PlainLinesTextIsDecided
plain_lines_decide text output outcome circuit layout said reports some =
    let good : IsGoodDesign text circuit layout = good_designs text output outcome circuit layout reports some
    said.design in
    let plain : SaysPlainCertificate text = record {
      circuit = circuit;
      layout = layout;
      certificate = plain_lines circuit layout;
      says = said;
      one = one circuit layout good.circuit_lines;
      modules = is_one circuit layout good.circuit_lines;
      plain = is_plain circuit layout good.circuit_lines;
    } in
    (plain, plain_is_decided text output outcome plain reports some)
