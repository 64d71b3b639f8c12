-- The places of the gates so far.
use Rattle.certificate.proofs.Imports.{All, length, map, take, ◌<◌, ◌≡◌}
use Rattle.lemmas.proofs.Common.{slice_index}
use Rattle.certificate.proofs.keep_lines.kept_places.Given as goal

abbrev pub invariant-loop-keep : goal.invariant-loop-keep
invariant-loop-keep l = record {
  gates : map (slice_index l.gates) l.places.items ≡ take l.keep-index l.keeps;
  within : All (λ place. place < length l.gates) l.places.items;
}
