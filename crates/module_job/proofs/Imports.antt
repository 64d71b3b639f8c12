-- The names from outside this folder that two or more proofs of this crate use, in one file to import them from.
pub use Rattle.bbm_rule.proofs.Imports.{cond-false, cond-true, nat_tests}
pub use Rattle.circuit.proofs.Imports.{slice_get-map}
pub use Rattle.indexmap.specs.IndexMap.{get}
pub use Rattle.lemmas.proofs.Common.{Decides, Decides-eqb, arc_value, if◌then◌else◌, length-replicate, mapped_at}
pub use Rattle.lemmas.proofs.Common.{pointwise, replicate, same_from_decides, same_head, same_tail, unwrap_or}
pub use Rattle.lemmas.proofs.Common.{unwrap_or-slice_get}
pub use Rattle.module_box.proofs.EqualTests.{both, lists, signal_decides}
pub use Rattle.module_box.proofs.Imports.{All, All-head, All-tail, Bool, List, None, Option, Some, [], ap, append_assoc}
pub use Rattle.module_box.proofs.Imports.{ap₂, arith, cases_Bool, cases_lt, common_steps, false≢true, flat_map, get_or}
pub use Rattle.module_box.proofs.Imports.{inl, inr, ints, length, length-append, length-map, map, nat_eq, pos, refl}
pub use Rattle.module_box.proofs.Imports.{rules, slice_get, slice_get-get_or, slice_index, subst, suc, sym, take, zero}
pub use Rattle.module_box.proofs.Imports.{ℕ, ℤ, ◌&&◌, ◌*◌, ◌++◌, ◌+◌, ◌-◌, ◌<◌, ◌∙◌, ◌∷◌, ◌≡◌, ◌≢◌, ◌≤◌, ◌⊎◌}
pub use Rattle.module_box.specs.Equality.{same_signal}
pub use Rattle.module_box.specs.Numbers.{IsPrefixFree}
pub use Rattle.module_box.specs.declared.schedules.Signal.{Signal}
pub use Rattle.module_box.specs.declared.schedules.Signal.TheVariants.{Zero}
pub use Rattle.module_job.specs.CellLists.{demand_from_number, signal_from_number}
pub use Rattle.module_job.specs.Equality.{same_demand, same_job, same_shape}
pub use Rattle.module_job.specs.Groups.{IsFirstEqualElement, same_key}
pub use Rattle.module_job.specs.Keys.{all_times_numbers, compact_number_bytes, demand_number, event_numbers}
pub use Rattle.module_job.specs.Keys.{shape_digest, signal_number, sparse_entry, sparse_list_numbers, stop_numbers}
unfoldable pub use Rattle.module_job.specs.Keys.{sparse_entries_from}
pub use Rattle.module_job.specs.Shapes.{ShapeView, job_of_shape, moved_stop, shape_of}
unfoldable pub use Rattle.module_job.specs.Summaries.{shape_summary}
pub use Rattle.module_job.specs.declared.job.Demand.{Demand}
pub use Rattle.module_job.specs.declared.job.Stop.{Stop}
