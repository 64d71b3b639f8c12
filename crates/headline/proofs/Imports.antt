-- The names from outside this folder that two or more proofs of this crate use, in one file to import them from.
pub use Rattle.answers.specs.Answers.{AnswersOrRefuses, pair_with_result}
pub use Rattle.section_text.proofs.Codes.{no_code, no_code_first}
pub use Rattle.answers.specs.BundleText.{Bundle}
unfoldable pub use Rattle.answers.specs.BundleText.{bundle_of, bundle_with_limits}
pub use Rattle.answers.specs.CheckText.{IsReportOf, IsVerdictOn, SaysReport, verdict_outcome}
pub use Rattle.answers.specs.MigrateText.{IsMigrationOf, SaysMigration, migrate_of, migrated_bundle}
unfoldable pub use Rattle.answers.specs.MigrateText.{bundle_text, certificate_section_text, layout_section_text}
pub use Rattle.answers.specs.ModulesText.{IsModulesAnswerOf, SaysModules}
pub use Rattle.answers.specs.RunText.{IsRunAnswerOf, RunQuestion, SaysRunEnd, run_end_outcome, run_end_text}
pub use Rattle.answers.specs.ValueText.{IsValueAnswerOf, SaysValues, ValueQuestion}
unfoldable pub use Rattle.answers.specs.ValueText.{value_sections_of}
pub use Rattle.answers.specs.declared.outcome.Outcome.{Outcome}
pub use Rattle.answers.specs.declared.outcome.Outcome.TheVariants.{No, Refused, Yes}
unfoldable pub use Rattle.bbm_rule.proofs.Imports.{turned}
pub use Rattle.bbm_rule.specs.declared.block.Box2.{Box2}
pub use Rattle.bbm_rule.specs.declared.block.Cell.{Cell}
pub use Rattle.border_match.proofs.Imports.{ints, modules_in, ◌+ℤ◌}
pub use Rattle.certificate.proofs.FullModules.{meant_modules, meant_old}
pub use Rattle.certificate.proofs.Imports.{AreFaultless, CertView, IsFaultless, certificate_grammar, codes, cut_name_in}
pub use Rattle.certificate.proofs.Imports.{drop, edge_in, filter, flat_map-append, is_haloless_version, is_module_line}
pub use Rattle.certificate.proofs.Imports.{map-append, stop_in}
unfoldable pub use Rattle.certificate.proofs.Imports.{add_line, certificate_text, has_nonlocal_edge_wire_beside}
unfoldable pub use Rattle.certificate.proofs.Imports.{modules_of, with_halo_lines, without_halo_lines}
pub use Rattle.certificate.proofs.MeantLines.{stops_meant}
pub use Rattle.certificate.proofs.Soundness.{faultless_modules, read_complete}
pub use Rattle.certificate.proofs.TimeLemmas.{all_in_modules}
pub use Rattle.certificate.specs.Arrivals.{AreOnTime}
pub use Rattle.certificate_lines.proofs.Imports.{bytes_eq-Decides, cell, or_else, words_of, ◌>>=◌}
unfoldable pub use Rattle.certificate_lines.proofs.Imports.{is_word_at}
pub use Rattle.certificate_lines.specs.Rules.{is_inverse_gate}
pub use Rattle.certificate_lines.specs.declared.certificate_line.CertificateLine.{CertificateLine}
pub use Rattle.certificate_lines.specs.declared.certificate_line.CertificateLine.TheVariants.{Cut, Keep, Module, Stop}
pub use Rattle.certificate_lines.specs.declared.certificate_line.CertificateLine.TheVariants.{Use}
pub use Rattle.certificate_lines.specs.declared.certificate_line.StopLine.{StopLine}
pub use Rattle.circuit.proofs.Bridging.{gates_are_ordered, names_pass, push_cons}
pub use Rattle.circuit.proofs.Imports.{AreGoodCircuitLines, HasNameCountOfKind, cond_some, consumed, entry}
unfoldable pub use Rattle.circuit.proofs.Imports.{AreGoodAfter, form_of, gate_entry, gate_line_of_kind, if_one_word}
unfoldable pub use Rattle.circuit.proofs.Imports.{limit_or_name_code, name_after_keyword, names_at, row, value_lines}
pub use Rattle.circuit.proofs.Naming.{inputs_are_first}
pub use Rattle.circuit.proofs.Places.{Have, bytes_same, consume_have}
pub use Rattle.circuit.specs.Grammars.{circuit_grammar, unconsumed_wire_code}
pub use Rattle.circuit.specs.Rules.{order_fault}
unfoldable pub use Rattle.circuit.specs.Text.{circuit_text}
pub use Rattle.circuit.specs.declared.circuit_line.CircuitLine.{CircuitLine}
pub use Rattle.circuit.specs.declared.circuit_line.GateKind.{GateKind}
pub use Rattle.circuit.specs.declared.circuit_line.GateKind.TheVariants.{Delay, Interact, Source, Switch, Unswitch}
pub use Rattle.circuit.specs.declared.circuit_line.CircuitLineKind.TheVariants.{Gate, Input, Output, Spill}
pub use Rattle.core_book.specs.Concluding.{port_names_of}
pub use Rattle.core_book.specs.declared.verdict.ReportLine.{ReportLine}
pub use Rattle.core_book.specs.declared.verdict.ReportLine.TheVariants.{Local, Meet}
pub use Rattle.core_book.specs.declared.verdict.Verdict.{Verdict}
pub use Rattle.headline.specs.Laws.{HasAnAnswerToEachText, HasAtMostOneAnswerToEachText}
pub use Rattle.headline.specs.MovedDesigns.{HasRoomToMove, enlarged, moved, moved_by_two, port_moved_by_two}
pub use Rattle.headline.specs.MovedDesigns.{rectangle_moved_by_two}
pub use Rattle.headline.specs.Plain.{HasRimTouch, SaysPlainCertificate}
pub use Rattle.headline.specs.ReportLines.{SaysNoWith}
pub use Rattle.headline.specs.RightInFull.{IsGoodDesign}
pub use Rattle.headline.specs.SmallDesigns.{AreLinesInOrder, HasNoDelay, IsDesign, IsPlainText, IsSmallDesign}
pub use Rattle.headline.specs.SmallDesigns.{design_text, gate_numbers, plain_lines}
pub use Rattle.headline.specs.Stops.{HasRightStops, SaysBundle}
pub use Rattle.lemmas.proofs.Common.{All-from_recursion, slice_split_at}
pub use Rattle.local_run.proofs.Imports.{in_span-negsuc, negsuc, span_from, span_parts, ◌-ℤ◌, ◌^◌}
unfoldable pub use Rattle.local_run.proofs.Imports.{partner}
pub use Rattle.local_run.specs.declared.fault.Fault.{Fault}
pub use Rattle.local_run.specs.declared.fault.Kind.{Kind}
pub use Rattle.meaning.specs.Design.{SaysDesign}
pub use Rattle.meaning.specs.Headline.{IsRight}
pub use Rattle.meaning.specs.Implements.{HaveNames, IsNamed}
pub use Rattle.meaning.specs.Printed.{IsForm, IsLine, part_form}
pub use Rattle.meaning.specs.Streams.{FourthLineSaysYes}
pub use Rattle.module_box.proofs.Imports.{take-append-drop}
pub use Rattle.pattern.proofs.Imports.{AllByRecursion, IsDeadOutside, in_layout, is_layout_side, layout_grammar}
pub use Rattle.pattern.proofs.Imports.{line_text}
unfoldable pub use Rattle.pattern.proofs.Imports.{box_of, cells_taken_at_start, largest_limit_code, layout_text}
unfoldable pub use Rattle.pattern.proofs.Imports.{line_fault, name_at, number_at}
pub use Rattle.pattern.proofs.Named.{faultless_named}
unfoldable pub use Rattle.pattern.specs.Forms.{corner_and_sides}
pub use Rattle.pattern.specs.FromLines.{layout_of}
pub use Rattle.pattern.specs.Grammars.{layout_section}
pub use Rattle.pattern.specs.Layout.{plane_at}
unfoldable pub use Rattle.pattern.specs.Lines.{layout_line_fault}
pub use Rattle.pattern.specs.Run.{IsLiveOutside, IsRunEnd}
pub use Rattle.pattern.specs.declared.layout_line.LayoutHeader.{LayoutHeader}
pub use Rattle.pattern.specs.declared.layout_line.LayoutLine.{LayoutLine}
pub use Rattle.pattern.specs.declared.layout_line.LayoutLine.TheVariants.{Ball, In, Mirror, Out, Waste}
pub use Rattle.pattern.specs.declared.layout_line.Port.{Port}
pub use Rattle.pattern.specs.declared.run.RunEnd.{RunEnd}
pub use Rattle.pattern.specs.declared.run.RunEnd.TheVariants.{Cells, LeftAt}
pub use Rattle.report.specs.ReportText.{refusal_line, report_line_text}
unfoldable pub use Rattle.report.specs.ReportText.{report_text}
pub use Rattle.section_text.proofs.Again.{AreLines, IsOneLine, lines_again}
pub use Rattle.section_text.proofs.Good.{read_faultless}
pub use Rattle.section_text.proofs.Imports.{Err, Grammar, IsSection, Ok, Result, decimal, is_name, with_line_feed}
unfoldable pub use Rattle.section_text.proofs.Imports.{bytes_after_last_line_feed, lines_of, name_of, number_of}
unfoldable pub use Rattle.section_text.proofs.Imports.{section_of}
pub use Rattle.section_text.proofs.Lines.{ended-cons, some_part}
pub use Rattle.section_text.proofs.MadeSections.{clean_both, nothing_follows, one_line, section_made, text_said}
pub use Rattle.section_text.proofs.Numbers.{number_written}
pub use Rattle.section_text.proofs.SaidSections.{one_section, section_said}
pub use Rattle.section_text.specs.Sections.{value_if_at_end}
pub use Rattle.section_text.specs.Spelling.{space_and_word}
unfoldable pub use Rattle.section_text.specs.Words.{number_after_keyword}
pub use Rattle.section_text.specs.declared.code.RefusalCode.{RefusalCode}
pub use Rattle.section_text.specs.declared.code.RefusalCode.TheVariants.{OutOfOrder, SomethingMissing, TakenCell}
pub use Rattle.section_text.specs.declared.fault.Refusal.{Refusal}
pub use Rattle.section_text.specs.declared.section.Form.{Form}
pub use Rattle.section_text.specs.declared.section.Form.TheVariants.{End, Header, Item}
pub use Rattle.sha2.specs.Sha256.{sha256}
pub use Rattle.soundness.proofs.Imports.{Accepts, All, All-cons, All-head, All-nil, All-tail, AreJobsOf, AreModules}
pub use Rattle.soundness.proofs.Imports.{BelongTogether, Bool, Circuit, IsCorrect, IsInputName, IsTrue, JobView, List}
pub use Rattle.soundness.proofs.Imports.{LooksAsAsked, ModuleLines, None, Option, Pattern, PortNameLists, Satisfies}
pub use Rattle.soundness.proofs.Imports.{Setting, Some, State, StopHolds, Valuation, [], all_stops, and_parts, any_at}
pub use Rattle.soundness.proofs.Imports.{ap, append-nil, append_assoc, ap₂, arith, as_values, bytes_eq, cases_Bool}
pub use Rattle.soundness.proofs.Imports.{circuit_of, code_if, common_steps, cond, cuts, defined, defines, edges, eq-eqb}
pub use Rattle.soundness.proofs.Imports.{eqb, eqb-true, false, false≢true, flat_map, has, if◌then◌else◌, in_cells}
pub use Rattle.soundness.proofs.Imports.{in_rectangles, inl, input_names, inr, is_among, kept, known, length}
pub use Rattle.soundness.proofs.Imports.{length-append, length-map, list_all, list_any, map, nat_lt, nat_tests}
pub use Rattle.soundness.proofs.Imports.{netlist_of, not, option_map, output_names, parts_of, pos, range_with_len, refl}
pub use Rattle.soundness.proofs.Imports.{run_under, same_Some, setting_of, slice_get, slice_get-map, slice_get_within}
pub use Rattle.soundness.proofs.Imports.{subst, suc, sym, take, timing_report_line, true, true≢false, whole, zero, ℕ, ℤ}
pub use Rattle.soundness.proofs.Imports.{◌%◌, ◌&&◌, ◌++◌, ◌+◌, ◌<◌, ◌==◌, ◌||◌, ◌∙◌, ◌∷◌, ◌≡◌, ◌≢◌, ◌≤◌, ◌⊎◌}
unfoldable pub use Rattle.soundness.proofs.Imports.{AreGatesOrdered, IsVerdict, bit, cell_fault, cells_of, evaluate}
unfoldable pub use Rattle.soundness.proofs.Imports.{fault_cmp, has_taken_cell, in_box, in_ring, in_span, is_inside}
unfoldable pub use Rattle.soundness.proofs.Imports.{job_demand, job_start, local_run, number, rectangle_cells, run}
unfoldable pub use Rattle.soundness.proofs.Imports.{size_fault, start, step, takes_cells_at_start}
pub use Rattle.soundness.proofs.InputRuns.{IsPlaced, placed, read_layout-names}
unfoldable pub use Rattle.soundness.proofs.NumberedSignals.{numbered_all_times, numbered_event, numbered_signals}
pub use Rattle.soundness.proofs.PortNames.{read_layout-is_named}
pub use Rattle.soundness.proofs.SomeJobs.{are_jobs_of, job_of}
pub use Rattle.soundness.proofs.SomeVerdict.{vec_of}
pub use Rattle.soundness.proofs.YesMeansCorrect.{IsRead}
pub use Rattle.soundness.specs.PlainCertificates.{IsPlainModule, LineMeans, TouchesRim}
