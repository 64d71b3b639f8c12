use Rattle.module_job.proofs.Imports.{all_times_numbers, flat_map, take, ◌++◌, ◌≡◌}
use Rattle.module_job.proofs.keys.push_all_times_list.Given as goal

abbrev pub invariant-loop-all_times : goal.invariant-loop-all_times
invariant-loop-all_times l = l.numbers.items
    ≡ l.initial.numbers.items ++ flat_map all_times_numbers (take l.all_times-index l.all_times_list)
