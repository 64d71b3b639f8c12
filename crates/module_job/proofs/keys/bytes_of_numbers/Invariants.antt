use Rattle.module_job.proofs.Imports.{compact_number_bytes, flat_map, take, ◌≡◌}
use Rattle.module_job.proofs.keys.bytes_of_numbers.Given as goal

abbrev pub invariant-loop-number : goal.invariant-loop-number
invariant-loop-number l = l.bytes.items ≡ flat_map compact_number_bytes (take l.number-index l.numbers)
