-- The wires and gates of a module, gate after gate
use Rattle.module_box.proofs.Imports.{All, All-head, All-tail, AreDistinct, AreGatesOrdered, AreLocalsOf}
use Rattle.module_box.proofs.Imports.{Gate, GateKind, IsTrue, List, Netlist, Some, Source}
use Rattle.module_box.proofs.Imports.{[], ap, append_assoc, ap₂, arith, common_steps, defines}
use Rattle.module_box.proofs.Imports.{drop, flat_map, get_or, get_or_append_left, get_or_default, inl, inr, is_among}
use Rattle.module_box.proofs.Imports.{length, length-append, length-map, length-range_with_len, length_push, map}
use Rattle.module_box.proofs.Imports.{range_with_len, refl, renumber_gate, same_Some, slice_get, slice_get-get_or}
use Rattle.module_box.proofs.Imports.{slice_get_read, slice_index, subst, suc, sym, take, take-append-drop, take_more}
use Rattle.module_box.proofs.Imports.{uses, wires_after, zero, ℕ, ◌*◌, ◌++◌, ◌+◌, ◌<◌, ◌∙◌, ◌∷◌, ◌≡◌, ◌≤◌, ◌⊎◌}
use Rattle.lemmas.proofs.Common.{append-nil, flat_map-append, take_all}
use Rattle.module_box.specs.Locals.{outs_of, local_wires, UsesOnlyKnownWires, AreLocalLines}
use Rattle.module_box.proofs.WireLists.{different_front}

-- ---- gates in order
-- a gate uses and defines as many wires as its kind says
pub ordered_fits : (n : ℕ) (gs : List Gate) (k : ℕ) (g : Gate) → AreGatesOrdered n gs → slice_get gs k ≡ Some g →
    (length g.ins ≡ uses g.kind) × (length g.outs ≡ defines g.kind)
unfolding AreGatesOrdered
ordered_fits n [] k g ordered at = absurd cc
ordered_fits n (h ∷ gs) zero g ordered at = grind (arith, common_steps, same_Some, length-range_with_len)
ordered_fits n (h ∷ gs) (suc k) g ordered at = ordered_fits (n + defines h.kind) gs k g ordered.3 at

-- no gate defines more than four wires
defines_few : (k : GateKind) → defines k ≤ 4
defines_few (Source b) = omega arith
defines_few _ = omega arith

-- one more gate
wires_push : (n : ℕ) (gs : List Gate) (g : Gate) → wires_after n (gs ++ g ∷ []) ≡ wires_after n gs + defines g.kind
unfolding wires_after
wires_push n [] g = refl
wires_push n (h ∷ gs) g = wires_push (n + defines h.kind) gs g

ordered_push : (n : ℕ) (gs : List Gate) (g : Gate) → AreGatesOrdered n gs → All (λ w. w < wires_after n gs) g.ins →
    length g.ins ≡ uses g.kind → g.outs ≡ range_with_len (wires_after n gs) (defines g.kind) →
    AreGatesOrdered n (gs ++ g ∷ [])
unfolding AreGatesOrdered wires_after
ordered_push n [] g ordered ins many outs = (ins, many, outs, tt)
ordered_push n (h ∷ gs) g ordered ins many outs =
    (ordered.0, ordered.1, ordered.2, ordered_push (n + defines h.kind) gs g ordered.3 ins many outs)

-- ---- wires by their numbers in a longer list
-- those that stand at its front
same_front : (keys rest : List ℕ) (ws : List ℕ) → All (λ w. w < length keys) ws →
    map (slice_index (keys ++ rest)) ws ≡ map (slice_index keys) ws
same_front keys rest [] below = refl
same_front keys rest (w ∷ ws) below =
    ap₂ (λ x xs. x ∷ xs) (get_or_append_left keys rest 0 w (All-head (λ w. w < length keys) w ws below))
    (same_front keys rest ws (All-tail (λ w. w < length keys) w ws below))

-- ---- what is known after i gates, and what comes later
known_rest : (n : Netlist) (cuts gates : List ℕ) (i : ℕ) →
    local_wires n cuts gates ≡ local_wires n cuts (take i gates) ++ flat_map (outs_of n) (drop i gates)
known_rest n cuts gates i =
    ap (λ (l : List ℕ). cuts ++ flat_map (outs_of n) l) (sym (take-append-drop i gates))
    ∙ ap (λ (l : List ℕ). cuts ++ l) (flat_map-append (outs_of n) (take i gates) (drop i gates))
    ∙ sym (append_assoc cuts (flat_map (outs_of n) (take i gates)) (flat_map (outs_of n) (drop i gates)))

known_more : (n : Netlist) (cuts gates : List ℕ) (i k : ℕ) (g : Gate) → i < length gates → k ≡ get_or gates i k →
    slice_get n.gates k ≡ Some g → local_wires n cuts (take (i + 1) gates) ≡ local_wires n cuts (take i gates) ++ g.outs
known_more n cuts gates i k g within is at = grind (arith, common_steps, take_more, append-nil, flat_map-append)

-- the gate g over other numbers: the wires that it uses stand at its ins in the list, and those that it defines come
-- next
pub record IsOver (keys : List ℕ) (g h : Gate) : Type 0 where
  pub kind : h.kind ≡ g.kind
  pub within : All (λ w. w < length keys) h.ins
  pub ins : map (slice_index keys) h.ins ≡ g.ins
  pub outs : h.outs ≡ range_with_len (length keys) (defines h.kind)

-- it is that gate by the wires that stand at its numbers, however many come later
renumbered : (keys all rest : List ℕ) (g h : Gate) → all ≡ keys ++ (g.outs ++ rest) → length g.outs ≡ defines g.kind →
    IsOver keys g h → g ≡ renumber_gate (slice_index all) h
renumbered keys all rest g h whole many over = grind (arith, common_steps, same_front)

-- an element of a list with one more at its end
push_cases : (gs : List Gate) (h : Gate) (j : ℕ) (f : Gate) → slice_get (gs ++ h ∷ []) j ≡ Some f →
    (slice_get gs j ≡ Some f) ⊎ ((j ≡ length gs) × (h ≡ f))
push_cases [] h zero f at = inr (refl, same_Some h f at)
push_cases [] h (suc j) f at = absurd cc
push_cases (g ∷ gs) h zero f at = inl at
push_cases (g ∷ gs) h (suc j) f at = grind (arith, common_steps, push_cases gs h j f at)

-- the number that is read at an index
number_is : (gates : List ℕ) (i k : ℕ) → i < length gates → k ≡ get_or gates i k → get_or gates i 0 ≡ k
number_is gates i k within is = get_or_default gates i 0 k within ∙ sym is

-- the first i gates are done
pub record IsPart (n : Netlist) (cuts gates : List ℕ) (i : ℕ) (keys : List ℕ) (done : List Gate) : Type 0 where
  pub known : keys ≡ local_wires n cuts (take i gates)
  pub count : length done ≡ i
  pub used : (k : ℕ) (g : Gate) → slice_get done k ≡ Some g →
      slice_get n.gates (slice_index gates k) ≡ Some (renumber_gate (slice_index (local_wires n cuts gates)) g)
  pub ordered : AreGatesOrdered (length cuts) done
  pub sized : wires_after (length cuts) done ≡ length keys
  pub few : length keys ≤ 12 + 4 * i

-- no gate is done: only the cuts are known
pub part_none : (n : Netlist) (cuts gates keys : List ℕ) → AreLocalLines n cuts gates → keys ≡ cuts →
    IsPart n cuts gates 0 keys []
unfolding AreGatesOrdered wires_after
part_none n cuts gates keys lines is = grind (arith, common_steps, append-nil)

-- ---- the next gate
-- the wires that it uses are known
pub next_known : (n : Netlist) (cuts gates : List ℕ) (i k : ℕ) (keys : List ℕ) (done : List Gate) →
    AreLocalLines n cuts gates → IsPart n cuts gates i keys done → i < length gates → k ≡ get_or gates i k →
    UsesOnlyKnownWires n keys k
next_known n cuts gates i k keys done lines part within is = grind (arith, common_steps, slice_get_read)

-- and so for the gate that the circuit has there
pub known_ins : (n : Netlist) (keys : List ℕ) (k : ℕ) (g : Gate) → UsesOnlyKnownWires n keys k →
    slice_get n.gates k ≡ Some g → All (λ w. IsTrue (is_among keys w)) g.ins
known_ins n keys k g known at = grind (arith, common_steps, same_Some)

-- those that it defines are not
pub next_new : (n : Netlist) (cuts gates : List ℕ) (i k : ℕ) (keys : List ℕ) (done : List Gate) (g : Gate) →
    AreLocalLines n cuts gates → IsPart n cuts gates i keys done → i < length gates → k ≡ get_or gates i k →
    slice_get n.gates k ≡ Some g → AreDistinct (keys ++ g.outs)
next_new n cuts gates i k keys done g lines part within is at =
    let more : local_wires n cuts (take (i + 1) gates) ≡ keys ++ g.outs =
    known_more n cuts gates i k g within is at ∙ ap (λ (l : List ℕ). l ++ g.outs) (sym part.known) in
    let whole : local_wires n cuts gates ≡ (keys ++ g.outs) ++ flat_map (outs_of n) (drop (i + 1) gates) =
    known_rest n cuts gates (i + 1) ∙ ap (λ (l : List ℕ). l ++ flat_map (outs_of n) (drop (i + 1) gates)) more in
    different_front (keys ++ g.outs) (flat_map (outs_of n) (drop (i + 1) gates))
    (subst AreDistinct whole lines.different)

-- it is done
pub part_more : (n : Netlist) (cuts gates : List ℕ) (i k : ℕ) (keys new : List ℕ) (done : List Gate) (g h : Gate) →
    AreGatesOrdered n.given n.gates → IsPart n cuts gates i keys done → i < length gates → k ≡ get_or gates i k →
    slice_get n.gates k ≡ Some g → IsOver keys g h → new ≡ keys ++ g.outs →
    IsPart n cuts gates (i + 1) new (done ++ h ∷ [])
part_more n cuts gates i k keys new done g h ordered part within is at over added =
    let all : List ℕ = local_wires n cuts gates in
    let fits = ordered_fits n.given n.gates k g ordered at in
    let more : new ≡ local_wires n cuts (take (i + 1) gates) =
    added ∙ ap (λ (l : List ℕ). l ++ g.outs) part.known ∙ sym (known_more n cuts gates i k g within is at) in
    let rest : List ℕ = flat_map (outs_of n) (drop (i + 1) gates) in
    let whole : all ≡ keys ++ (g.outs ++ rest) =
    known_rest n cuts gates (i + 1) ∙ ap (λ (l : List ℕ). l ++ rest) (sym more ∙ added)
    ∙ append_assoc keys g.outs rest in
    let here : slice_get n.gates (slice_index gates (length done)) ≡ Some (renumber_gate (slice_index all) h) =
    ap (slice_get n.gates) (ap (slice_index gates) part.count ∙ number_is gates i k within is) ∙ at
    ∙ ap Some (renumbered keys all rest g h whole fits.1 over) in
    let long : length new ≡ length keys + length g.outs = ap length added ∙ length-append keys g.outs in
    record {
      known = more;
      count = length_push done h ∙ ap (λ m. m + 1) part.count;
      used = λ j f there. elim (push_cases done h j f there) [
        | inl before ↦ part.used j f before
        | inr last ↦ subst (λ (f : Gate).
            slice_get n.gates (slice_index gates j) ≡ Some (renumber_gate (slice_index all) f)) last.1
            (subst (λ j. slice_get n.gates (slice_index gates j) ≡ Some (renumber_gate (slice_index all) h))
            (sym last.0) here)
      ];
      ordered = ordered_push (length cuts) done h part.ordered
          (subst (λ m. All (λ w. w < m) h.ins) (sym part.sized) over.within)
          (sym (length-map h.ins (slice_index keys)) ∙ ap length over.ins ∙ fits.0 ∙ ap uses (sym over.kind))
          (over.outs ∙ ap (λ m. range_with_len m (defines h.kind)) (sym part.sized));
      sized = wires_push (length cuts) done h ∙ omega (arith, part.sized, long, fits.1, ap defines over.kind);
      few = omega (arith, part.few, long, fits.1, defines_few g.kind);
    }

-- all gates are done
pub part_all : (n : Netlist) (cuts gates keys keys' gates' : List ℕ) (i : ℕ) (done : List Gate) →
    AreLocalLines n cuts gates → IsPart n cuts gates i keys done → i ≡ length gates → keys' ≡ keys → gates' ≡ gates →
    AreLocalsOf n
    (record { netlist = record { given = length cuts; gates = done }; circuit_wires = keys'; circuit_gates = gates' })
part_all n cuts gates keys keys' gates' i done lines part all same_keys same_gates =
    let known : keys' ≡ local_wires n cuts gates =
    same_keys ∙ part.known ∙ ap (local_wires n cuts) (take_all i gates (omega (arith, all))) in
    let number = λ (k : ℕ) (below : k < length gates). slice_get-get_or gates k 0 below
    ∙ ap (λ (l : List ℕ). Some (slice_index l k)) (sym same_gates) in
    record {
      used = λ k g at. ap (λ (l : List ℕ). slice_get n.gates (slice_index l k)) same_gates ∙ part.used k g at
          ∙ ap (λ (l : List ℕ). Some (renumber_gate (slice_index l) g)) (sym known);
      rising = λ k m lt below. lines.rising k m (slice_index gates' k) (slice_index gates' m) lt
          (number k (omega (arith, part.count))) (number m (omega (arith, part.count)));
      ordered = part.ordered;
      sized = ap length same_keys ∙ sym part.sized;
    }
