-- The numbers of a shape tell it, and the bytes of numbers tell them
use Rattle.module_job.proofs.Imports.{All-head, All-tail, Demand, IsPrefixFree, List, ShapeView, Signal, []}
use Rattle.module_job.proofs.Imports.{all_times_numbers, append_assoc, ap₂, arith, cases_Bool, common_steps}
use Rattle.module_job.proofs.Imports.{compact_number_bytes, cond-false, cond-true, demand_number, event_numbers}
use Rattle.module_job.proofs.Imports.{flat_map, inl, inr, nat_tests, refl, same_head, same_tail, signal_number}
use Rattle.module_job.proofs.Imports.{sparse_list_numbers, stop_numbers, sym, ℕ, ℤ, ◌++◌, ◌<◌, ◌∙◌, ◌∷◌, ◌≡◌, ◌⊎◌}
use Rattle.lemmas.proofs.Common.{◌^◌, from_le_bytes-to_le_bytes_2, from_le_bytes-to_le_bytes_8, to_le_bytes, w16}
use Rattle.std.specs.Int.{w64}
use Rattle.module_box.specs.Numbers.{length_prefixed, netlist_numbers}
use Rattle.module_box.proofs.InjectiveNumbers.{counted_tell, listed, lists_tell, netlists_tell, same_length}
use Rattle.module_job.specs.Keys.{BytesDetermineNumbers, NumbersDetermineShapes, cell_numbers, zigzag_number}
use Rattle.module_job.specs.Keys.{shape_numbers, signals_numbers}
use Rattle.module_job.proofs.CellEntries.{cells_tell_all}

-- ---- one number
one_tells : {A : Type 0} (f : A → ℕ) → ((a b : A) → f a ≡ f b → a ≡ b) → IsPrefixFree (λ (a : A). f a ∷ [])
one_tells f tells a b r s e = (tells a b (same_head (f a) (f b) r s e), same_tail (f a) (f b) r s e)

signal_told : (a b : Signal) → signal_number a ≡ signal_number b → a ≡ b
signal_told a b h1 = grind (arith, common_steps)

demand_told : (a b : Demand) → demand_number a ≡ demand_number b → a ≡ b
demand_told a b h1 = grind (arith, common_steps)

integer_told : (a b : ℤ) → zigzag_number a ≡ zigzag_number b → a ≡ b
integer_told a b h1 = grind (arith, common_steps)

-- ---- cells, and what stands at them
cells_tell : IsPrefixFree cell_numbers
cells_tell c d r s e = grind (arith, common_steps, one_tells, integer_told)

all_times_list_tell : IsPrefixFree all_times_numbers
all_times_list_tell h k r s e = grind (arith, common_steps, cells_tell, one_tells, signal_told)

events_tell : IsPrefixFree event_numbers
events_tell h k r s e = grind (arith, common_steps, one_tells, cells_tell, signal_told)

stops_tell : IsPrefixFree stop_numbers
stops_tell h k r s e = grind (arith, common_steps, one_tells, cells_tell)

signals_tell : IsPrefixFree signals_numbers
signals_tell a b r s e =
    let apart = append_assoc (length_prefixed all_times_numbers a.all_times)
    (length_prefixed event_numbers a.events) r in
    let apart' = append_assoc (length_prefixed all_times_numbers b.all_times)
    (length_prefixed event_numbers b.events) s in
    let all_times = counted_tell all_times_numbers all_times_list_tell a.all_times b.all_times
    (length_prefixed event_numbers a.events ++ r)
    (length_prefixed event_numbers b.events ++ s) (sym apart ∙ e ∙ apart') in
    let events = counted_tell event_numbers events_tell a.events b.events r s all_times.1 in
    (λ i. record { all_times = all_times.0 i; events = events.0 i }, events.1)

-- ---- shapes
in_turn : (a b c d e f g h r : List ℕ) →
    a ++ b ++ c ++ d ++ e ++ f ++ g ++ h ++ r ≡ a ++ (b ++ (c ++ (d ++ (e ++ (f ++ (g ++ (h ++ r)))))))
in_turn a b c d e f g h r = grind (arith, common_steps, append_assoc)

abbrev sides : ShapeView → List ℕ
sides s = s.width ∷ s.height ∷ s.steps ∷ []

abbrev starts : ShapeView → List ℕ
starts s = sparse_list_numbers signal_number s.starts

abbrev demands : ShapeView → List ℕ
demands s = sparse_list_numbers demand_number s.demands

abbrev stops : ShapeView → List ℕ
stops s = length_prefixed stop_numbers s.stops

pub shapes_tell : NumbersDetermineShapes
unfolding shape_numbers
shapes_tell a b r s e =
    let apart = in_turn (netlist_numbers a.netlist) (sides a) (starts a) (demands a) (signals_numbers a.edges)
    (signals_numbers a.halos) (stops a) (listed a.kept) r in
    let apart' = in_turn (netlist_numbers b.netlist) (sides b) (starts b) (demands b) (signals_numbers b.edges)
    (signals_numbers b.halos) (stops b) (listed b.kept) s in
    let net = netlists_tell a.netlist b.netlist _ _ (sym apart ∙ e ∙ apart') in
    let three = same_length (sides a) (sides b) _ _ refl net.1 in
    let start = cells_tell_all signal_number signal_told a.starts b.starts _ _ three.1 in
    let demand = cells_tell_all demand_number demand_told a.demands b.demands _ _ start.1 in
    let edges = signals_tell a.edges b.edges _ _ demand.1 in
    let halos = signals_tell a.halos b.halos _ _ edges.1 in
    let stop = counted_tell stop_numbers stops_tell a.stops b.stops _ _ halos.1 in
    let kept = lists_tell a.kept b.kept r s stop.1 in
    let height = same_tail a.width b.width _ _ three.0 in
    let steps = same_tail a.height b.height _ _ height in grind (arith, common_steps, same_head)

-- ---- bytes
abbrev Forms : ℕ → Type 0
Forms n = ((n < 254) × (compact_number_bytes n ≡ n ∷ []))
    ⊎ (((n < 2 ^ 16) × (compact_number_bytes n ≡ 254 ∷ to_le_bytes w16 n))
    ⊎ (compact_number_bytes n ≡ 255 ∷ to_le_bytes w64 n))

forms : (n : ℕ) → Forms n
forms n = grind (arith, common_steps, cases_Bool, nat_tests, cond-true, cond-false)

two_tell : (n m : ℕ) (r s : List ℕ) → n < 2 ^ 16 → m < 2 ^ 16 → to_le_bytes w16 n ++ r ≡ to_le_bytes w16 m ++ s →
    (n ≡ m) × (r ≡ s)
two_tell n m r s few few' e = grind (arith, common_steps, same_length, from_le_bytes-to_le_bytes_2)

eight_tell : (n m : ℕ) (r s : List ℕ) → n < 2 ^ 64 → m < 2 ^ 64 → to_le_bytes w64 n ++ r ≡ to_le_bytes w64 m ++ s →
    (n ≡ m) × (r ≡ s)
eight_tell n m r s few few' e = grind (arith, common_steps, same_length, from_le_bytes-to_le_bytes_8)

bytes_tell : (n m : ℕ) (r s : List ℕ) → Forms n → Forms m → n < 2 ^ 64 → m < 2 ^ 64 →
    compact_number_bytes n ++ r ≡ compact_number_bytes m ++ s → (n ≡ m) × (r ≡ s)
bytes_tell n m r s (inl f) (inl g) few few' e = grind (arith, common_steps, same_head, same_tail)
bytes_tell n m r s (inl f) (inr (inr g)) few few' e = grind (arith, common_steps, same_head)
bytes_tell n m r s (inr (inl f)) (inr (inl g)) few few' e = grind (arith, common_steps, two_tell, same_tail)
bytes_tell n m r s (inr (inr f)) (inl g) few few' e = grind (arith, common_steps, same_head)
bytes_tell n m r s (inr (inr f)) (inr (inr g)) few few' e = grind (arith, common_steps, eight_tell, same_tail)
bytes_tell n m r s _ (inr (inl g)) few few' e = grind (arith, common_steps, same_head)
bytes_tell n m r s (inr (inl f)) _ few few' e = grind (arith, common_steps, same_head)

empty : (x : ℕ) (xs : List ℕ) → [] ≡ x ∷ xs → ⊥
empty x xs e = cc

some_bytes : (n : ℕ) (r : List ℕ) → Forms n → [] ≡ compact_number_bytes n ++ r → ⊥
some_bytes n r h1 h2 = grind (arith, common_steps, empty)

pub numbers_told : BytesDetermineNumbers
numbers_told [] [] few few' e = refl
numbers_told [] (m ∷ ms) few few' e = absurd (some_bytes m (flat_map compact_number_bytes ms) (forms m) e)
numbers_told (n ∷ ns) [] few few' e = absurd (some_bytes n (flat_map compact_number_bytes ns) (forms n) (sym e))
numbers_told (n ∷ ns) (m ∷ ms) few few' e =
    let both = bytes_tell n m (flat_map compact_number_bytes ns) (flat_map compact_number_bytes ms) (forms n) (forms m)
    (All-head (λ (k : ℕ). k < 2 ^ 64) n ns few) (All-head (λ (k : ℕ). k < 2 ^ 64) m ms few') e in
    ap₂ (λ x xs. x ∷ xs) both.0 (numbers_told ns ms (All-tail (λ (k : ℕ). k < 2 ^ 64) n ns few)
    (All-tail (λ (k : ℕ). k < 2 ^ 64) m ms few') both.1)
