-- A ball that goes two steps along a diagonal, in a rectangle that is one module, is accepted by computation.
use Rattle.soundness.proofs.Imports.{AreGatesOrdered, AreJobsOf, AreModules, BelongTogether, CircuitLine, Input}
use Rattle.soundness.proofs.Imports.{JobView}
use Rattle.soundness.proofs.Imports.{List, ModuleLines, Output, Pattern, Port, [], all_times_at, arith, bit, cell_fault}
use Rattle.soundness.proofs.Imports.{cells_of, cells_taken_at_end, circuit_of, common_steps, end_demand, evaluate}
use Rattle.soundness.proofs.Imports.{event_at, has_taken_cell, in_box, in_halo, in_ring, in_span, is_inside, job_demand}
use Rattle.soundness.proofs.Imports.{job_start, local_run, map, netlist_of, number, place_of, port_at, rectangle_cells}
use Rattle.soundness.proofs.Imports.{has_neighbour_in_set, refl, setting_of, signal_at, size_fault, start_signal, step}
use Rattle.soundness.proofs.Imports.{takes_cells_at_end, takes_cells_at_start, whole, with_halo, ℕ, ◌∷◌}
use Rattle.bbm_rule.specs.Plane.{partner, turned}
use Rattle.section_text.proofs.Good.{IsFaultless}
use Rattle.bbm_rule.specs.CellLists.{cell}
use Rattle.pattern.specs.Lines.{largest_limit_code, cells_taken_at_start}
use Rattle.certificate_lines.specs.declared.certificate_line.CertificateLine.{CertificateLine}
use Rattle.certificate_lines.specs.declared.certificate_line.CertificateLine.TheVariants.{Module, Cut}
use Rattle.certificate.specs.Grammars.{certificate_grammar}
use Rattle.section_text.specs.declared.limits.Limits.TheVariants.{First}
use Rattle.certificate.proofs.Soundness.{faultless_modules}
use Rattle.local_run.specs.Runs.{local_step}
use Rattle.soundness.specs.HeadlineLaws.{SomeBundleIsAccepted}
use Rattle.soundness.proofs.NumberedSignals.{numbered, numbered_signals, place_among}
use Rattle.soundness.proofs.SomeJobs.{are_jobs_of, demanded, job_of, placed_gates, placed_stop, places}
use Rattle.soundness.proofs.Trials.{PassTests, accepts}
use Rattle.certificate_lines.specs.Entries as entries
use Rattle.certificate_lines.specs.Orders as orders
use Rattle.certificate_lines.specs.Rules as rules
use Rattle.certificate.specs.Times as times

abbrev name_p : List ℕ
name_p = 112 ∷ []

-- the wire `p` is an input and an output
abbrev lines : List CircuitLine
lines = record { kind = Input; ins = []; outs = name_p ∷ [] } ∷ record { kind = Output; ins = name_p ∷ []; outs = [] }
    ∷ []

abbrev port : ℕ → ℕ → Port
port x y = record { name = name_p; cell = cell x y }

abbrev layout : Pattern
layout = record {
  size = record { w = 4; h = 4; steps = 2 };
  mirrors = [];
  balls = [];
  ins = port 0 0 ∷ [];
  outs = port 2 2 ∷ [];
  wastes = [];
}

abbrev certificate : List CertificateLine
certificate = Module (whole layout.size) ∷ Cut name_p ∷ []

abbrev modules : List ModuleLines
modules = entries.modules_of certificate

abbrev jobs : List JobView
jobs = map (job_of (circuit_of lines) layout) modules

is_faultless : IsFaultless (certificate_grammar First (setting_of lines layout)) 1 certificate
unfolding place_of number rectangle_cells in_box in_span orders.is_cut_line orders.may_precede orders.may_follow
    entries.change_last entries.last_of entries.add_line entries.modules_of rules.has_nonlocal_port
    rules.module_box_code
    rules.module_line_code rules.cut_line_code rules.are_new_and_distinct rules.entry_fault rules.module_limit_fault
    rules.end_fault
is_faultless = record { header = refl; each = (refl, (refl, tt)); end = refl }

is_ordered : AreGatesOrdered (netlist_of lines).given (netlist_of lines).gates
unfolding AreGatesOrdered
is_ordered = tt

are_modules : AreModules (setting_of lines layout) modules
are_modules = faultless_modules First (setting_of lines layout) 1 certificate is_faultless

are_jobs : AreJobsOf (circuit_of lines) layout modules jobs
are_jobs = are_jobs_of lines layout modules is_ordered (λ k m at. (are_modules.each k m at, are_modules.ports k m at))

is_bundle : BelongTogether lines layout modules jobs
unfolding size_fault largest_limit_code cell_fault is_inside has_taken_cell takes_cells_at_start takes_cells_at_end
    cells_of
    cells_taken_at_start
    cells_taken_at_end in_span
is_bundle = grind (arith, common_steps, is_ordered, are_modules, are_jobs)

pass : PassTests (setting_of lines layout) modules jobs
unfolding place_of number rectangle_cells in_box in_ring in_halo has_neighbour_in_set in_span entries.change_last
    entries.add_line entries.modules_of start_signal end_demand port_at places placed_gates place_among numbered
    numbered_signals demanded placed_stop bit evaluate job_start job_demand local_run local_step with_halo step partner
    turned signal_at all_times_at event_at times.lines_of_numbered_gates
pass = record { jobs = refl; kept = refl; borders = refl; on_time = refl }

pub example : SomeBundleIsAccepted
example = record {
  lines = lines;
  layout = layout;
  modules = modules;
  jobs = jobs;
  long = omega arith;
  accepted = record {
    bundle = is_bundle;
    accepted = accepts lines layout modules jobs is_bundle.limits are_modules are_jobs pass;
  };
}
