-- The lines on delays and meetings are right about their gates.
use Rattle.certificate.proofs.Imports.{All, All-append, All-cons, All-head, All-nil, All-tail, Circuit, Contains, Gate}
use Rattle.certificate.proofs.Imports.{List, None, Option, Some, StopLine, TimeLine, [], all_stops, and_parts, ap}
use Rattle.certificate.proofs.Imports.{arith, common_steps, delay_line, earlier, eqb-true, fold, if◌then◌else◌}
use Rattle.certificate.proofs.Imports.{last_times, later, length, lines_of_numbered_gates, list_all, max, meet_line}
use Rattle.certificate.proofs.Imports.{min, nat_le, nat_tests, option_to_list, refl, same_Some, slice_get}
use Rattle.certificate.proofs.Imports.{stop_times_of_wire, subst, suc, sym, true, zero, ℕ, ◌++◌, ◌+◌, ◌-◌, ◌<◌, ◌==◌}
use Rattle.certificate.proofs.Imports.{◌∙◌, ◌∷◌, ◌≡◌, ◌≤◌}
use Rattle.lemmas.proofs.Common.{All-contains, Contains-append_left, Contains-append_right, list_all-append, eq_test}
use Rattle.circuit.specs.declared.circuit_line.GateKind.{GateKind}
use Rattle.circuit.specs.declared.circuit_line.GateKind.TheVariants.{Delay}
use Rattle.certificate.specs.Arrivals.{IsDelayGapTrue, IsFirstStopTime, IsLastStopTime, IsMeetingTimeTrue}
use Rattle.certificate.specs.Arrivals.{IsTimeLineTrue, LastStopsMeetAt, TakesStepsFromLastToFirstStop}
use Rattle.certificate.specs.Laws.{ObeyedLinesAreOnTime, TimeLinesAreTrue}
use Rattle.certificate.specs.Times.{common_time, delay_line_of_kind, first_seen_time, first_wire_time, gap_between}
use Rattle.certificate.specs.Times.{is_timing_obeyed, last_seen_time, meet_line_of_times}
use Rattle.certificate.specs.declared.times.StopGap.{StopGap}
use Rattle.certificate.specs.declared.times.StopGap.TheVariants.{Steps, Missing, Before}
use Rattle.certificate.proofs.SeenLaws.{first_is_least, last_is_greatest}
use Rattle.certificate.specs.declared.times.TimeLine.TheVariants as line

-- ---- the first and the last time of a wire

is_first : (c : Circuit) (ss : List StopLine) (w t : ℕ) → first_seen_time c ss w ≡ Some t → IsFirstStopTime c ss w t
is_first c ss w t e = let h = first_is_least c ss w t e in record { seen = h.0; least = h.1 }

is_last : (c : Circuit) (ss : List StopLine) (w t : ℕ) → last_seen_time c ss w ≡ Some t → IsLastStopTime c ss w t
is_last c ss w t e = let h = last_is_greatest c ss w t e in record { seen = h.0; greatest = h.1 }

nothing_there : (t : ℕ) → Contains [] t → ⊥
nothing_there t h = let lt = h.1 in omega (arith, lt)

some_earlier : (a : ℕ) (ts : List ℕ) → (t : ℕ) × (fold earlier (Some a) ts ≡ Some t)
some_earlier a [] = (a, refl)
some_earlier a (u ∷ us) = some_earlier (min a u) us

some_later : (a : ℕ) (ts : List ℕ) → (t : ℕ) × (fold later (Some a) ts ≡ Some t)
some_later a [] = (a, refl)
some_later a (u ∷ us) = some_later (max a u) us

-- what has a stop has a first one and a last one
has_first : (ts : List ℕ) (t : ℕ) → Contains ts t → (u : ℕ) × (fold earlier None ts ≡ Some u)
has_first [] t h = absurd (nothing_there t h)
has_first (a ∷ ts) t h = some_earlier a ts

has_last : (ts : List ℕ) (t : ℕ) → Contains ts t → (u : ℕ) × (fold later None ts ≡ Some u)
has_last [] t h = absurd (nothing_there t h)
has_last (a ∷ ts) t h = some_later a ts

first_is : (c : Circuit) (ss : List StopLine) (w t : ℕ) → IsFirstStopTime c ss w t → first_seen_time c ss w ≡ Some t
first_is c ss w t h =
    let f = has_first (stop_times_of_wire c ss w) t h.seen in
    let g = is_first c ss w f.0 f.1 in
    let up = All-contains (λ u. t ≤ u) (stop_times_of_wire c ss w) f.0 h.least g.seen in
    let down = All-contains (λ u. f.0 ≤ u) (stop_times_of_wire c ss w) t g.least h.seen in
    f.1 ∙ ap Some (omega (arith, up, down))

last_is : (c : Circuit) (ss : List StopLine) (w t : ℕ) → IsLastStopTime c ss w t → last_seen_time c ss w ≡ Some t
last_is c ss w t h =
    let f = has_last (stop_times_of_wire c ss w) t h.seen in
    let g = is_last c ss w f.0 f.1 in
    let up = All-contains (λ u. u ≤ t) (stop_times_of_wire c ss w) f.0 h.greatest g.seen in
    let down = All-contains (λ u. u ≤ f.0) (stop_times_of_wire c ss w) t g.greatest h.seen in
    f.1 ∙ ap Some (omega (arith, up, down))

-- ---- delays

gap_missing : (last first : Option ℕ) (l f : ℕ) → gap_between last first ≡ Missing → last ≡ Some l → first ≡ Some f → ⊥
gap_missing last first l f h1 h2 h3 = grind (arith, common_steps)

takes : (c : Circuit) (ss : List StopLine) (m a b : ℕ) →
    gap_between (last_seen_time c ss a) (first_seen_time c ss b) ≡ Steps m → TakesStepsFromLastToFirstStop c ss m a b
takes c ss m a b e = grind (arith, common_steps, is_last, is_first)

gap_tells : (c : Circuit) (ss : List StopLine) (a b : ℕ) (gap : StopGap) →
    gap_between (last_seen_time c ss a) (first_seen_time c ss b) ≡ gap → IsDelayGapTrue c ss gap a b
gap_tells c ss a b (Steps m) e = takes c ss m a b e
gap_tells c ss a b Missing e = λ s t last first. gap_missing _ _ s t e (last_is c ss a s last) (first_is c ss b t first)
gap_tells c ss a b Before e = grind (arith, common_steps, is_last, is_first)

-- ---- meetings

time_there : (o : Option ℕ) (s : ℕ) → o ≡ Some s → Contains (option_to_list o) s
time_there o s h1 = grind (arith, common_steps, same_Some)

-- the last time of a wire is among the last times
listed : (last : ℕ → Option ℕ) (ws : List ℕ) (w s : ℕ) → Contains ws w → last w ≡ Some s →
    Contains (last_times last ws) s
listed last [] w s h e = absurd (nothing_there w h)
listed last (v ∷ ws) w s (zero, lt, is) e =
    Contains-append_left (option_to_list (last v)) (last_times last ws) s (time_there (last v) s (ap last is ∙ e))
listed last (v ∷ ws) w s (suc k, lt, is) e =
    Contains-append_right (option_to_list (last v)) (last_times last ws) s
    (listed last ws w s (k, (omega (arith, lt)), is) e)

equal_all : (t : ℕ) (ts : List ℕ) → All (λ u. u ≡ t) ts → list_all (λ u. u == t) ts ≡ true
equal_all t [] h = refl
equal_all t (u ∷ ts) h =
    let here : (u == t) ≡ true = eq_test u t (All-head (λ v. v ≡ t) u ts h) in
    rw (here, equal_all t ts (All-tail (λ v. v ≡ t) u ts h)) refl

agreed_all : (ts : List ℕ) (t : ℕ) → common_time ts ≡ Some t → All (λ u. u ≡ t) ts
agreed_all [] t e = absurd cc
agreed_all (a ∷ ts) t e = grind (arith, common_steps, same_Some)

none_agreed : (ts : List ℕ) (t : ℕ) → 0 < length ts → common_time ts ≡ None → All (λ u. u ≡ t) ts → ⊥
none_agreed [] t lt e h = omega (arith, lt)
none_agreed (a ∷ ts) t lt e h =
    let here : a ≡ t = All-head (λ u. u ≡ t) a ts h in
    let all = equal_all a ts (subst (λ (r : ℕ). All (λ u. u ≡ r) ts) (sym here) (All-tail (λ u. u ≡ t) a ts h)) in
    let none : Some a ≡ None = sym (ap (λ b. if b then Some a else None) all) ∙ e in cc

-- what holds of the last times of all wires that have one
each_time : (P : ℕ → Type 0) (o : Option ℕ) → ((s : ℕ) → o ≡ Some s → P s) → All P (option_to_list o)
each_time P o h1 = grind (arith, common_steps)

all_times : (P : ℕ → Type 0) (last : ℕ → Option ℕ) (ws : List ℕ) → ((w s : ℕ) → Contains ws w → last w ≡ Some s → P s) →
    All P (last_times last ws)
all_times P last [] h = All-nil P
all_times P last (v ∷ ws) h =
    All-append P (option_to_list (last v)) (last_times last ws) (each_time P (last v) (λ s e. h v s zero_there e))
    (all_times P last ws (λ w s there e. h w s (later_there w there) e))
  where
    zero_there : Contains (v ∷ ws) v
    zero_there = (zero, omega arith, refl)

    later_there : (w : ℕ) → Contains ws w → Contains (v ∷ ws) w
    later_there w there = (suc there.0, (let lt = there.1 in omega (arith, lt)), there.2)

meet_at : (c : Circuit) (ss : List StopLine) (ws : List ℕ) (t : ℕ) →
    All (λ u. u ≡ t) (last_times (last_seen_time c ss) ws) → LastStopsMeetAt c ss ws t
meet_at c ss ws t h w s there last =
    All-contains (λ u. u ≡ t) (last_times (last_seen_time c ss) ws) s h
    (listed (last_seen_time c ss) ws w s there (last_is c ss w s last))

all_meet : (c : Circuit) (ss : List StopLine) (ws : List ℕ) (t : ℕ) → LastStopsMeetAt c ss ws t →
    All (λ u. u ≡ t) (last_times (last_seen_time c ss) ws)
all_meet c ss ws t h = all_times (λ u. u ≡ t) (last_seen_time c ss) ws (λ w s there e. h w s there (is_last c ss w s e))

meet_tells : (c : Circuit) (ss : List StopLine) (ws : List ℕ) (o : Option ℕ) →
    0 < length (last_times (last_seen_time c ss) ws) → common_time (last_times (last_seen_time c ss) ws) ≡ o →
    IsMeetingTimeTrue c ss o ws
meet_tells c ss ws (Some t) some e = meet_at c ss ws t (agreed_all _ t e)
meet_tells c ss ws None some e = λ t meet. none_agreed _ t some e (all_meet c ss ws t meet)

-- ---- the lines of all gates

delay_lines_tell : (c : Circuit) (ss : List StopLine) (k : ℕ) (r : GateKind) (g : Gate) →
    slice_get c.netlist.gates k ≡ Some g → g.kind ≡ r →
    All (IsTimeLineTrue c ss) (delay_line_of_kind k r
    (gap_between (first_wire_time (last_seen_time c ss) g.ins) (first_wire_time (first_seen_time c ss) g.outs)))
delay_lines_tell c ss k (Delay n) g at is = grind (arith, common_steps, gap_tells)
delay_lines_tell c ss k _ g at is = All-nil (IsTimeLineTrue c ss)

meet_lines_tell : (c : Circuit) (ss : List StopLine) (k : ℕ) (g : Gate) → slice_get c.netlist.gates k ≡ Some g →
    All (IsTimeLineTrue c ss) (meet_line (last_seen_time c ss) k g)
meet_lines_tell c ss k g at = grind (arith, common_steps, nat_tests, meet_tells)

all_numbered : (P : TimeLine → Type 0) (f : ℕ → Gate → List TimeLine) (all : List Gate) →
    ((k : ℕ) (g : Gate) → slice_get all k ≡ Some g → All P (f k g)) → (j : ℕ) (gates : List Gate) →
    ((i : ℕ) → slice_get gates i ≡ slice_get all (j + i)) → All P (lines_of_numbered_gates f j gates)
unfolding lines_of_numbered_gates
all_numbered P f all each j [] at = All-nil P
all_numbered P f all each j (g ∷ gates) at =
    All-append P (f j g) (lines_of_numbered_gates f (j + 1) gates)
    (each j g (ap (slice_get all) (omega arith) ∙ sym (at 0)))
    (all_numbered P f all each (j + 1) gates (λ i. at (suc i) ∙ ap (slice_get all) (omega arith)))

from_none : (gates : List Gate) (i : ℕ) → slice_get gates i ≡ slice_get gates (0 + i)
from_none gates i = ap (slice_get gates) (omega arith)

pub lines_tell : TimeLinesAreTrue
lines_tell c ms =
    let ss = all_stops ms in
    All-append (IsTimeLineTrue c ss) _ _
    (all_numbered (IsTimeLineTrue c ss) (delay_line (first_seen_time c ss) (last_seen_time c ss)) c.netlist.gates
    (λ k g at. delay_lines_tell c ss k g.kind g at refl) 0 c.netlist.gates (from_none c.netlist.gates))
    (all_numbered (IsTimeLineTrue c ss) (meet_line (last_seen_time c ss)) c.netlist.gates
    (meet_lines_tell c ss) 0 c.netlist.gates
    (from_none c.netlist.gates))

-- ---- where all are kept

obeyed_parts : (xs ys : List TimeLine) → list_all is_timing_obeyed (xs ++ ys) ≡ true →
    (list_all is_timing_obeyed xs ≡ true) × (list_all is_timing_obeyed ys ≡ true)
obeyed_parts xs ys e = and_parts _ _ (sym (list_all-append is_timing_obeyed xs ys) ∙ e)

kept_at : (f : ℕ → Gate → List TimeLine) (j : ℕ) (gates : List Gate) (i : ℕ) (g : Gate) →
    list_all is_timing_obeyed (lines_of_numbered_gates f j gates) ≡ true → slice_get gates i ≡ Some g →
    list_all is_timing_obeyed (f (j + i) g) ≡ true
unfolding lines_of_numbered_gates
kept_at f j [] i g e at = absurd cc
kept_at f j (h ∷ gates) zero g e at = grind (arith, common_steps, obeyed_parts, same_Some)
kept_at f j (h ∷ gates) (suc i) g e at =
    let p = obeyed_parts (f j h) (lines_of_numbered_gates f (j + 1) gates) e in
    subst (λ n. list_all is_timing_obeyed (f n g) ≡ true) (omega arith) (kept_at f (j + 1) gates i g p.1 at)

kept_gap : (k n : ℕ) (gap : StopGap) → list_all is_timing_obeyed (line.Delay k n gap ∷ []) ≡ true → gap ≡ Steps n
kept_gap k n gap h1 = grind (arith, common_steps, eqb-true, and_parts)

meeting_of : (k : ℕ) (ts : List ℕ) → list_all is_timing_obeyed (meet_line_of_times k ts) ≡ true →
    (t : ℕ) × All (λ u. u ≡ t) ts
meeting_of k [] e = (0, All-nil (λ u. u ≡ 0))
meeting_of k (a ∷ []) e = (a, All-cons (λ u. u ≡ a) a [] refl (All-nil (λ u. u ≡ a)))
meeting_of k (a ∷ b ∷ ts) e =
    by_case (common_time (a ∷ b ∷ ts)) refl
    (grind (arith, common_steps))
  where
    two : nat_le 2 (length (a ∷ b ∷ ts)) ≡ true
    two = grind (arith, nat_tests)

    by_case : (o : Option ℕ) → common_time (a ∷ b ∷ ts) ≡ o → list_all is_timing_obeyed (line.Meet k o ∷ []) ≡ true →
        (t : ℕ) × All (λ u. u ≡ t) (a ∷ b ∷ ts)
    by_case (Some t) is kept = (t, agreed_all (a ∷ b ∷ ts) t is)
    by_case None is kept = absurd cc

pub kept_is_on_time : ObeyedLinesAreOnTime
kept_is_on_time c ms kept =
    let ss = all_stops ms in
    let delays = lines_of_numbered_gates (delay_line (first_seen_time c ss) (last_seen_time c ss)) 0 c.netlist.gates in
    let meetings = lines_of_numbered_gates (meet_line (last_seen_time c ss)) 0 c.netlist.gates in
    let p = obeyed_parts delays meetings kept in
    record {
      delays = λ k n a b is. takes c ss n a b
          (kept_gap (0 + k) n _ (kept_at
          (delay_line (first_seen_time c ss) (last_seen_time c ss)) 0 c.netlist.gates k _ p.0 is));
      meetings = λ k g at.
          let m = meeting_of (0 + k) (last_times (last_seen_time c ss) g.ins)
          (kept_at (meet_line (last_seen_time c ss)) 0 c.netlist.gates k g p.1 at) in
          (m.0, meet_at c ss g.ins m.0 m.1);
    }
