-- Three texts are accepted and one is refuted, by computation: they are read, and their modules pass tests.
--
-- One is of four modules around a gate, with stops and a delay, and one of a switch and its inverse gate. Two are plain
-- texts of two balls that meet, the second of them with a wrong layout.
use Rattle.lemmas.proofs.Common.{common_steps}
use Rattle.headline.proofs.Imports.{All, All-head, All-tail, Bundle, Cell, CircuitLine, Cut, Err, Gate, HasNoDelay}
use Rattle.headline.proofs.Imports.{Input, Interact, IsCorrect, IsDesign, IsInputName, IsPlainModule, IsReportOf}
use Rattle.headline.proofs.Imports.{IsSmallDesign, List, Meet, Module, ModuleLines, No, Ok, Outcome, Output, Pattern}
use Rattle.headline.proofs.Imports.{Refused, Some, Stop, StopHolds, StopLine, Switch, TouchesRim, Unswitch, Use, Yes}
use Rattle.headline.proofs.Imports.{[], arith, bit, bundle_of, bundle_with_limits, cell, circuit_of, codes, cuts}
use Rattle.headline.proofs.Imports.{design_text, evaluate, fault_cmp, flat_map, in_span, job_demand, job_start}
use Rattle.headline.proofs.Imports.{local_run, modules_of, netlist_of, numbered_all_times, numbered_event}
use Rattle.headline.proofs.Imports.{numbered_signals, partner, parts_of, plain_lines, refl, row, slice_get, step, subst}
use Rattle.headline.proofs.Imports.{suc, true, turned, whole, zero, ℕ, ◌++◌, ◌∷◌, ◌≡◌, ◌≢◌}
use Rattle.circuit.specs.Gates.{is_inverse}
use Rattle.bbm_rule.specs.CellOrder.{cell_cmp}
use Rattle.module_box.specs.Schedules.{all_times_at, event_at, signal_at}
use Rattle.certificate_lines.specs.PortTables.{port_at}
use Rattle.certificate.specs.Jobs.{end_demand, start_signal}
use Rattle.local_run.specs.Runs.{local_step, with_halo}
use Rattle.soundness.proofs.NumberedSignals.{numbered, place_among}
use Rattle.soundness.proofs.SomeJobs.{demanded, placed_gate, placed_gates, placed_stop, places}
use Rattle.meaning.specs.Design.{front_text}
use Rattle.section_text.specs.declared.limits.Limits.TheVariants.{Second}
use Rattle.headline.specs.Fronts.{WideTextIsAccepted, WideTextIsRefused, wide_text}
use Rattle.headline.specs.Witnesses.{PlainNoTextIsRefuted, PlainYesTextIsAccepted, SmallDesignIsAccepted}
use Rattle.headline.specs.Witnesses.{SmallDesignIsRefuted, ThereAndBackTextIsAccepted, TimedModulesTextIsAccepted}
use Rattle.headline.specs.PlainLaws.{ThereAndBackTextIsPlain, ThereAndBackTextIsSmall}
use Rattle.headline.specs.PlainNo.{plain_no_text}
use Rattle.headline.specs.PlainYes.{plain_yes_text}
use Rattle.headline.specs.ThereAndBack.{there_and_back_text}
use Rattle.headline.specs.TimedModules.{timed_modules_text}
use Rattle.headline.proofs.FailingTexts.{Fails, is_refuted}
use Rattle.headline.proofs.PassingTexts.{IsReadAndPasses, accepted_if}
use Rattle.headline.proofs.PlainLines.{plain_lines_decide}
use Rattle.headline.proofs.SmallDesigns.{is_plain_text}
use Rattle.headline.proofs.Designs.{one_certificate, one_design}
use Rattle.headline.proofs.PlainTexts.{yes_off_rim}
use Rattle.headline.proofs.ReadDesigns.{design_read}
use Rattle.headline.proofs.SomeReport.{some_report}
use Rattle.headline.proofs.WrittenDesigns.{each_is_decided}
use Rattle.headline.proofs.YesIsRight.{bundle_good, yes_has_right_stops, yes_is_right_as_read}
use Rattle.circuit.specs.Meaning.{Gate as Meant}
use Rattle.section_text.specs.Words as words
use Rattle.section_text.specs.Section as section
use Rattle.circuit.specs.Forms as circuit_forms
use Rattle.circuit.specs.Meaning as meaning
use Rattle.circuit.specs.Rules as circuit_rules
use Rattle.pattern.specs.Forms as layout_forms
use Rattle.bbm_rule.specs.CellLists as cell_lists
use Rattle.pattern.specs.Lines as layout_rules
use Rattle.bbm_rule.specs.Boxes as boxes
use Rattle.certificate_lines.specs.Entries as entries
use Rattle.certificate_lines.specs.Forms as forms
use Rattle.certificate_lines.specs.Orders as orders
use Rattle.certificate_lines.specs.Rules as rules
use Rattle.certificate_lines.specs.Versions as versions
use Rattle.certificate.specs.Keeps as keeps
use Rattle.certificate.specs.Times as times

-- ---- the switch and its inverse gate

abbrev circuit : List CircuitLine
circuit =
    record { kind = Input; ins = []; outs = codes "c" ∷ [] }
    ∷ record { kind = Input; ins = []; outs = codes "x" ∷ [] }
    ∷ record { kind = Gate Switch; ins = codes "c" ∷ codes "x" ∷ []; outs = codes "d" ∷ codes "y" ∷ codes "z" ∷ [] }
    ∷ record { kind = Gate Unswitch; ins = codes "d" ∷ codes "y" ∷ codes "z" ∷ []; outs = codes "e" ∷ codes "w" ∷ [] }
    ∷ record { kind = Output; ins = codes "e" ∷ []; outs = [] }
    ∷ record { kind = Output; ins = codes "w" ∷ []; outs = [] } ∷ []

abbrev layout : Pattern
layout = record {
  size = record { w = 2; h = 2; steps = 0 };
  mirrors = [];
  balls = [];
  ins = record { name = codes "c"; cell = cell 0 0 } ∷ record { name = codes "x"; cell = cell 1 0 } ∷ [];
  outs = record { name = codes "e"; cell = cell 0 0 } ∷ record { name = codes "w"; cell = cell 1 0 } ∷ [];
  wastes = [];
}

abbrev bundle : Bundle
bundle = record {
  circuit = circuit;
  size = layout.size;
  parts = parts_of layout;
  version = 1;
  entries = plain_lines circuit layout;
}

-- ---- the two balls that meet

abbrev meeting : List CircuitLine
meeting =
    record { kind = Input; ins = []; outs = codes "p" ∷ [] }
    ∷ record { kind = Input; ins = []; outs = codes "q" ∷ [] }
    ∷ record {
      kind = Gate Interact;
      ins = codes "p" ∷ codes "q" ∷ [];
      outs = codes "a" ∷ codes "b" ∷ codes "c" ∷ codes "d" ∷ [];
    }
    ∷ record { kind = Output; ins = codes "a" ∷ []; outs = [] }
    ∷ record { kind = Output; ins = codes "b" ∷ []; outs = [] }
    ∷ record { kind = Output; ins = codes "c" ∷ []; outs = [] }
    ∷ record { kind = Output; ins = codes "d" ∷ []; outs = [] } ∷ []

-- where the outputs b and c are
abbrev meeting_in : Cell → Cell → Pattern
meeting_in b c = record {
  size = record { w = 8; h = 8; steps = 3 };
  mirrors = [];
  balls = [];
  ins = record { name = codes "p"; cell = cell 2 2 } ∷ record { name = codes "q"; cell = cell 5 5 } ∷ [];
  outs =
      record { name = codes "a"; cell = cell 5 2 } ∷ record { name = codes "b"; cell = b }
      ∷ record { name = codes "c"; cell = c } ∷ record { name = codes "d"; cell = cell 2 5 } ∷ [];
  wastes = [];
}

abbrev right_layout : Pattern
right_layout = meeting_in (cell 2 2) (cell 5 5)

abbrev wrong_layout : Pattern
wrong_layout = meeting_in (cell 5 5) (cell 2 2)

abbrev one : ModuleLines
one = record {
  area = record { x = 0; y = 0; w = 8; h = 8 };
  lines =
      Cut (codes "p") ∷ Cut (codes "q") ∷ Use 0
      ∷ Stop (record { time = 1; wire = codes "p"; cell = cell 3 3 })
      ∷ Stop (record { time = 1; wire = codes "q"; cell = cell 4 4 }) ∷ [];
}

abbrev meeting_bundle : Pattern → Bundle
meeting_bundle p = record {
  circuit = meeting;
  size = p.size;
  parts = parts_of p;
  version = 2;
  entries = Module one.area ∷ one.lines;
}

-- each cut is an input, and no gate is an inverse one
record IsMeeting (p : Pattern) : Type 0 where
  inputs : All (IsInputName meeting) (cuts one)
  modules : modules_of (meeting_bundle p).entries ≡ one ∷ []
  box : one.area ≡ whole p.size

is_meeting : (b c : Cell) → IsMeeting (meeting_in b c)
unfolding entries.change_last entries.add_line entries.modules_of meaning.number meaning.place_of
is_meeting b c = grind (arith, common_steps)

no_inverse : (k : ℕ) (gate : Meant) → slice_get (netlist_of meeting).gates k ≡ Some gate →
    is_inverse gate.kind ≡ true → ⊥
no_inverse zero gate at inverse = grind (arith, common_steps)
no_inverse (suc k) gate at inverse = absurd cc

meeting_plain : (b c : Cell) → IsPlainModule meeting (meeting_in b c) one
meeting_plain b c = record {
  box = (is_meeting b c).box;
  inputs = (is_meeting b c).inputs;
  inverses = λ k gate at inverse. absurd (no_inverse k gate at inverse);
  no_edge = refl;
}

-- ---- the texts are read, and pass

record AreRead : Type 0 where
  pub timed : IsReadAndPasses (bundle_of timed_modules_text)
  pub inverse : IsReadAndPasses (bundle_of there_and_back_text)
  pub reads : bundle_of there_and_back_text ≡ Ok bundle
  pub yes : IsReadAndPasses (bundle_of plain_yes_text)
  pub yes_reads : bundle_of plain_yes_text ≡ Ok (meeting_bundle right_layout)
  pub wide : IsReadAndPasses (bundle_of (front_text Second ++ wide_text))
  pub wide_is_refused : bundle_of wide_text ≡ Err (record { line = 3; code = 2 })
  pub no_reads : bundle_of plain_no_text ≡ Ok (meeting_bundle wrong_layout)
  pub no_fails : Fails (meeting_bundle wrong_layout) wrong_layout one (cell 2 2) 1 (Meet 0 (Some 1) ∷ [])

are_read : AreRead
unfolding wide_text timed_modules_text there_and_back_text plain_yes_text plain_no_text bundle_of bundle_with_limits
    words.lines_of
    words.bytes_after_last_line_feed
    words.number_of
    words.name_of
    words.number_at words.name_at words.names_at words.is_word_at words.if_one_word words.number_after_keyword
    words.name_after_keyword
    section.section_of section.section_body_of circuit_forms.form_of circuit_forms.gate_entry
    circuit_forms.gate_line_of_kind
    circuit_forms.gate_kind circuit_forms.bit_at circuit_rules.limit_or_name_code meaning.number meaning.place_of
    layout_forms.form_of layout_forms.cell_of_words_from layout_forms.cell_after_keyword layout_forms.port_after_keyword
    layout_forms.port_of
    layout_forms.size_of layout_forms.sides_and_steps layout_rules.size_fault layout_rules.text_size_fault
    layout_rules.largest_limit_code layout_rules.text_limit_fault
    layout_rules.rank_of layout_rules.has_later_kind_before layout_rules.order_fault layout_rules.name_fault
    layout_rules.cells_of
    layout_rules.is_inside layout_rules.takes_cells_at_start layout_rules.takes_cells_at_end
    layout_rules.cells_taken_at_start
    layout_rules.cells_taken_at_end
    layout_rules.has_taken_cell layout_rules.cell_fault layout_rules.line_fault layout_rules.layout_line_fault
    layout_rules.missing_port_fault cell_lists.rectangle_cells in_span boxes.in_box boxes.has_neighbour_in_set
    boxes.in_ring
    boxes.in_halo entries.change_last entries.last_of entries.add_line entries.modules_of layout_forms.corner_and_sides
    layout_forms.box_of forms.star_or_time_at_word forms.one_or_name_at_word forms.border_of_five_words forms.border_of
    forms.stop_of_five_words forms.stop_of
    forms.form_of orders.rank_of orders.sort_number_of orders.cell_of orders.line_cmp orders.is_cut_line
    orders.may_precede
    orders.may_follow rules.has_nonlocal_port rules.module_box_code rules.module_line_code rules.cut_line_code
    rules.are_new_and_distinct rules.used_gate_fault
    rules.use_line_code rules.keep_line_code rules.is_line_time_allowed rules.is_edge_place_and_time_allowed
    rules.is_halo_place_and_time_allowed rules.is_stop_place_and_time_allowed
    rules.signal_fault rules.border_or_stop_line_code rules.entry_fault rules.module_limit_fault rules.end_fault
    cell_cmp
    versions.modules_by_version
    start_signal
    end_demand
    port_at places placed_gate placed_gates place_among numbered numbered_all_times numbered_event numbered_signals
    demanded placed_stop bit row evaluate job_start job_demand local_run local_step with_halo step partner turned
    signal_at all_times_at event_at times.lines_of_numbered_gates versions.edge_lines_beside
    versions.sorted_border_lines
    versions.precedes_halo_lines
    versions.with_halo_lines versions.is_halo_line versions.has_nonlocal_edge_wire_beside fault_cmp
    keeps.unkept_gates_from
are_read = record {
  timed = record { layout = refl; tests = record { jobs = refl; kept = refl; borders = refl; on_time = refl } };
  inverse = record { layout = refl; tests = record { jobs = refl; kept = refl; borders = refl; on_time = refl } };
  reads = refl;
  yes = record { layout = refl; tests = record { jobs = refl; kept = refl; borders = refl; on_time = refl } };
  yes_reads = refl;
  wide = record { layout = refl; tests = record { jobs = refl; kept = refl; borders = refl; on_time = refl } };
  wide_is_refused = refl;
  no_reads = refl;
  no_fails = record {
    layout = refl;
    alone = refl;
    plain = meeting_plain (cell 5 5) (cell 2 2);
    none_kept = refl;
    first = record { small = omega arith; missed = refl; before = refl };
    unkept = refl;
    on_times = refl;
    few = omega arith;
  };
}

pub timed_accepted : TimedModulesTextIsAccepted
timed_accepted = accepted_if timed_modules_text are_read.timed

pub wide_accepted : WideTextIsAccepted
wide_accepted = accepted_if (front_text Second ++ wide_text) are_read.wide

pub wide_refused : WideTextIsRefused
wide_refused = grind (arith, common_steps, are_read)

pub inverse_accepted : ThereAndBackTextIsAccepted
inverse_accepted = accepted_if there_and_back_text are_read.inverse

-- ---- the second one is the plain text of a small design

pub plain : ThereAndBackTextIsPlain
plain = (plain_lines_decide there_and_back_text inverse_accepted.0 Yes circuit layout
    ((bundle_good there_and_back_text bundle are_read.reads).says_all layout refl) inverse_accepted.1 (λ e. cc)).0

pub small : ThereAndBackTextIsSmall
small = record {
  circuit = circuit;
  layout = layout;
  plain = is_plain_text there_and_back_text bundle layout are_read.reads refl refl refl;
  small =
      record { wide = omega arith; high = omega arith; short = omega arith; inputs = omega arith; gates = omega arith };
}

-- ---- two balls that meet, with the right layout and with a wrong one

yes_accepted : (output : List ℕ) × IsReportOf plain_yes_text output Yes
yes_accepted = accepted_if plain_yes_text are_read.yes

-- where the balls are after the first step
abbrev ball : List ℕ → Cell → StopLine
ball wire c = record { time = 1; wire = wire; cell = c }

yes_stops : All (StopHolds (circuit_of meeting) right_layout)
    (ball (codes "p") (cell 3 3) ∷ ball (codes "q") (cell 4 4) ∷ [])
yes_stops =
    let r = yes_has_right_stops plain_yes_text yes_accepted.0 yes_accepted.1 in
    let said = (bundle_good plain_yes_text (meeting_bundle right_layout) are_read.yes_reads).says_all right_layout
    refl in
    let same = one_design plain_yes_text r.circuit meeting r.layout right_layout r.says.design said.design in
    let own = one_certificate plain_yes_text r.circuit meeting r.layout right_layout r.certificate
    (meeting_bundle right_layout).entries r.says said in
    subst (λ cs. All (StopHolds (circuit_of cs) right_layout) (ball (codes "p") (cell 3 3)
    ∷ ball (codes "q") (cell 4 4) ∷ [])) same.0
    (subst (λ p. All (StopHolds (circuit_of r.circuit) p) (ball (codes "p") (cell 3 3)
    ∷ ball (codes "q") (cell 4 4) ∷ [])) same.1
    (subst (λ es. All (StopHolds (circuit_of r.circuit) r.layout) (flat_map entries.stop_in es)) own r.stops))

pub plain_yes_text_accepted : PlainYesTextIsAccepted
plain_yes_text_accepted = record {
  first_ball = All-head (StopHolds (circuit_of meeting) right_layout) (ball (codes "p") (cell 3 3))
      (ball (codes "q") (cell 4 4) ∷ []) yes_stops;
  second_ball = All-head (StopHolds (circuit_of meeting) right_layout) (ball (codes "q") (cell 4 4)) []
      (All-tail (StopHolds (circuit_of meeting) right_layout) (ball (codes "p") (cell 3 3))
      (ball (codes "q") (cell 4 4) ∷ []) yes_stops);
  plain = record {
    circuit = meeting;
    layout = right_layout;
    certificate = (meeting_bundle right_layout).entries;
    says = (bundle_good plain_yes_text (meeting_bundle right_layout) are_read.yes_reads).says_all right_layout refl;
    one = one;
    modules = (is_meeting (cell 2 2) (cell 5 5)).modules;
    plain = meeting_plain (cell 2 2) (cell 5 5);
  };
  steps = omega arith;
  output = yes_accepted.0;
  reported = yes_accepted.1;
}

pub plain_no_text_refuted : PlainNoTextIsRefuted
plain_no_text_refuted =
    let is = is_refuted plain_no_text (meeting_bundle wrong_layout) are_read.no_reads wrong_layout one (cell 2 2) 1
    (Meet 0 (Some 1) ∷ []) are_read.no_fails in
    record {
      plain = record {
        circuit = meeting;
        layout = wrong_layout;
        certificate = (meeting_bundle wrong_layout).entries;
        says = (bundle_good plain_no_text (meeting_bundle wrong_layout) are_read.no_reads).says_all wrong_layout refl;
        one = one;
        modules = (is_meeting (cell 5 5) (cell 2 2)).modules;
        plain = meeting_plain (cell 5 5) (cell 2 2);
      };
      steps = omega arith;
      output = is.output;
      reported = is.reported;
      says = is.says;
      shows = is.shows;
    }

-- ---- so the plain texts of both designs are reported with the same outcomes

no_delay : HasNoDelay meeting
no_delay zero steps a b is = grind (arith, common_steps)
no_delay (suc k) steps a b is = absurd cc

few : (b c : Cell) → IsSmallDesign meeting (meeting_in b c)
few b c = grind (arith, common_steps)

right_design : IsDesign meeting right_layout
right_design = design_read plain_yes_text (meeting_bundle right_layout) right_layout are_read.yes_reads refl

wrong_design : IsDesign meeting wrong_layout
wrong_design = design_read plain_no_text (meeting_bundle wrong_layout) wrong_layout are_read.no_reads refl

right_correct : IsCorrect meeting right_layout
right_correct =
    let r = yes_is_right_as_read plain_yes_text yes_accepted.0 yes_accepted.1 in
    let says = (bundle_good plain_yes_text (meeting_bundle right_layout) are_read.yes_reads).says right_layout refl in
    let same = one_design plain_yes_text r.circuit meeting r.layout right_layout r.says says in
    subst (λ cs. IsCorrect cs right_layout) same.0 (subst (IsCorrect r.circuit) same.1 r.correct)

right_off : ¬ TouchesRim meeting right_layout
right_off touch = yes_off_rim plain_yes_text yes_accepted.0 yes_accepted.1 (record {
  circuit = meeting;
  layout = right_layout;
  says = (bundle_good plain_yes_text (meeting_bundle right_layout) are_read.yes_reads).says right_layout refl;
  touches = touch;
})

pub design_accepted : SmallDesignIsAccepted
design_accepted =
    let r = some_report (design_text meeting right_layout) in
    let d = each_is_decided meeting right_layout r.0 r.1 right_design (few (cell 2 2) (cell 5 5)) r.2 in
    let yes : r.1 ≡ Yes = d.1.1 (right_correct, no_delay, right_off) in
    grind (arith, common_steps, right_design, small, few)

pub no_of : (outcome : Outcome) → outcome ≢ Yes → outcome ≢ Refused → outcome ≡ No
no_of outcome h1 h2 = grind (arith, common_steps)

pub design_refuted : SmallDesignIsRefuted
design_refuted =
    let r = some_report (design_text meeting wrong_layout) in
    let d = each_is_decided meeting wrong_layout r.0 r.1 wrong_design (few (cell 5 5) (cell 2 2)) r.2 in
    let is = is_refuted plain_no_text (meeting_bundle wrong_layout) are_read.no_reads wrong_layout one (cell 2 2) 1
    (Meet 0 (Some 1) ∷ []) are_read.no_fails in
    let no : r.1 ≡ No = no_of r.1 (λ e. is.shows.real.incorrect refl (d.1.0 e).0) d.0 in
    grind (arith, common_steps, wrong_design, small, few)
