-- The stops of a module: what its lines give, and their order.
use Rattle.certificate.proofs.Imports.{All, AreLinesInOrder, AreStopsOfLines, CertificateLine, Circuit, Each, IsRising}
use Rattle.certificate.proofs.Imports.{Less, List, LocalNet, Option, Pairs, Stop, StopLine, arith, cell_cmp, cell_of}
use Rattle.certificate.proofs.Imports.{circuit_wire, common_steps, flat_map, is_cut_line, line_cmp, may_precede}
use Rattle.certificate.proofs.Imports.{moment_cmp, nat_cmp, ordering_then, pairs_flat, rank_of, refl, rising_of}
use Rattle.certificate.proofs.Imports.{sort_number_of, stop_in, subst, sym, true, wire_of, ℕ, ◌≡◌}
use Rattle.lemmas.proofs.Common.{all_unmapped}
use Rattle.certificate_lines.proofs.FlatParts.{flat_all}
use Rattle.module_box.specs.declared.schedules.Moment.{Moment}
use Rattle.certificate.specs.Jobs.{stop_with_wire_number}
use Rattle.module_job.specs.Jobs.{stop_moment}
use Rattle.module_job.specs.Signals.{renumber_stop}
use Rattle.certificate.proofs.BorderOrder.{is_less, pairs_of_order}
use Rattle.module_job.specs.declared.job.Stop as listed

-- ---- they rise

abbrev StopBefore : StopLine → StopLine → Type 0
StopBefore s t = ordering_then (nat_cmp s.time t.time) (cell_cmp s.cell t.cell) ≡ Less

stops_between : (i j : CertificateLine) → may_precede i j ≡ true →
    Each (λ s. Each (StopBefore s) (stop_in j)) (stop_in i)
unfolding Each may_precede line_cmp rank_of sort_number_of cell_of is_cut_line
stops_between i j h1 = grind (arith, common_steps, is_less)

stop_alone : (i : CertificateLine) → Pairs StopBefore (stop_in i)
unfolding Each Pairs
stop_alone i = grind (arith, common_steps)

stop_lines_rise : (lines : List CertificateLine) → AreLinesInOrder lines → Pairs StopBefore (flat_map stop_in lines)
stop_lines_rise lines o = grind (arith, common_steps, pairs_flat, stops_between, stop_alone, pairs_of_order)

abbrev MomentBefore : listed.Stop → listed.Stop → Type 0
MomentBefore a b = moment_cmp (stop_moment a) (stop_moment b) ≡ Less

numbered_between : (s : StopLine) (o : Option ℕ) (t : StopLine) (p : Option ℕ) → StopBefore s t →
    Each (λ a. Each (MomentBefore a) (stop_with_wire_number t p)) (stop_with_wire_number s o)
unfolding Each moment_cmp
numbered_between s o t p h1 = grind (arith, common_steps)

numbered_alone : (s : StopLine) (o : Option ℕ) → Pairs MomentBefore (stop_with_wire_number s o)
unfolding Each Pairs
numbered_alone s o = grind (arith, common_steps)

pub stops_rise : (c : Circuit) (l : LocalNet) (lines : List CertificateLine) (ss : List listed.Stop) →
    AreLinesInOrder lines → AreStopsOfLines c l (flat_map stop_in lines) ss → IsRising moment_cmp stop_moment ss
stops_rise c l lines ss o are =
    rising_of moment_cmp stop_moment (renumber_stop (circuit_wire l)) (λ a. refl) ss _ are.same
    (pairs_flat StopBefore MomentBefore (λ s. stop_with_wire_number s (wire_of c s.wire))
    (λ s t. numbered_between s (wire_of c s.wire) t (wire_of c t.wire)) (λ s. numbered_alone s (wire_of c s.wire))
    (flat_map stop_in lines)
    (stop_lines_rise lines o))

-- ---- where they stand

all_numbered : (P : Moment → Type 0) (s : StopLine) (o : Option ℕ) → P (record { time = s.time; cell = s.cell }) →
    All (λ r. P r.at) (stop_with_wire_number s o)
all_numbered P s o h1 = grind (arith, common_steps)

pub stops_stand : (P : Moment → Type 0) (c : Circuit) (l : LocalNet) (lines : List StopLine) (ss : List listed.Stop) →
    AreStopsOfLines c l lines ss → All (λ s. P (record { time = s.time; cell = s.cell })) lines → All (λ r. P r.at) ss
stops_stand P c l lines ss are h =
    all_unmapped (λ r. P r.at) (renumber_stop (circuit_wire l)) ss (subst (All (λ r. P r.at)) (sym are.same)
    (flat_all (λ r. P r.at) (λ s. stop_with_wire_number s (wire_of c s.wire))
    (λ s. P (record { time = s.time; cell = s.cell })) (λ s at. all_numbered P s (wire_of c s.wire) at) lines h))
