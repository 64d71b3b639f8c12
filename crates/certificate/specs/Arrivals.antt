-- The meaning of delays and meetings, gate by gate
use Rattle.std.specs.Prelude.{◌≡◌, ℕ, ◌+◌, ◌<◌, ◌≤◌, List, [], ◌∷◌, Option, Some, None, slice_get, Contains}
use Rattle.std.specs.List.{All}
use Rattle.circuit.specs.declared.circuit_line.GateKind.TheVariants.{Delay}
use Rattle.circuit.specs.Meaning.{Circuit, Gate}
use Rattle.certificate.specs.Times.{stop_times_of_wire}
use Rattle.certificate_lines.specs.declared.certificate_line.StopLine.{StopLine}
use Rattle.certificate.specs.declared.times.StopGap.{StopGap}
use Rattle.certificate.specs.declared.times.StopGap.TheVariants.{Steps, Missing, Before}
use Rattle.certificate.specs.declared.times.TimeLine.{TimeLine}
use Rattle.certificate.specs.declared.times.TimeLine.TheVariants as line

-- a stop is at wire w at time t, and none at an earlier time
pub record IsFirstStopTime (c : Circuit) (ss : List StopLine) (w t : ℕ) : Type 0 where
  pub seen : Contains (stop_times_of_wire c ss w) t
  pub least : All (λ u. t ≤ u) (stop_times_of_wire c ss w)

-- and none at a later one
pub record IsLastStopTime (c : Circuit) (ss : List StopLine) (w t : ℕ) : Type 0 where
  pub seen : Contains (stop_times_of_wire c ss w) t
  pub greatest : All (λ u. u ≤ t) (stop_times_of_wire c ss w)

-- from the last time of wire a to the first time of wire b there are this many steps
pub record TakesStepsFromLastToFirstStop (c : Circuit) (ss : List StopLine) (steps a b : ℕ) : Type 0 where
  pub leaves : ℕ
  pub last : IsLastStopTime c ss a leaves
  pub first : IsFirstStopTime c ss b (leaves + steps)

-- those of these wires that have stops have their last at time t
abbrev pub LastStopsMeetAt : Circuit → List StopLine → List ℕ → ℕ → Type 0
LastStopsMeetAt c ss ws t = (w s : ℕ) → Contains ws w → IsLastStopTime c ss w s → s ≡ t

-- gate k is a delay of n steps that uses wire a and defines wire b
abbrev pub IsDelayBetweenWires : Circuit → (k n a b : ℕ) → Type 0
IsDelayBetweenWires c k n a b =
    slice_get c.netlist.gates k ≡ Some (record { kind = Delay n; ins = a ∷ []; outs = b ∷ [] })

-- each delay takes as many steps as it says, and for each gate there is a time at which its inputs meet
pub record AreOnTime (c : Circuit) (ss : List StopLine) : Type 0 where
  pub delays : (k n a b : ℕ) → IsDelayBetweenWires c k n a b → TakesStepsFromLastToFirstStop c ss n a b
  pub meetings : (k : ℕ) (g : Gate) → slice_get c.netlist.gates k ≡ Some g → (t : ℕ) × LastStopsMeetAt c ss g.ins t

-- what is told of a delay by its two wires, the one that it uses and the one that it defines: how many steps it takes,
-- that one of them has no stop, or that the first time of the second comes before the last of the first
abbrev pub IsDelayGapTrue : Circuit → List StopLine → StopGap → (a b : ℕ) → Type 0
IsDelayGapTrue c ss (Steps m) a b = TakesStepsFromLastToFirstStop c ss m a b
IsDelayGapTrue c ss Missing a b = (s t : ℕ) → IsLastStopTime c ss a s → ¬ IsFirstStopTime c ss b t
IsDelayGapTrue c ss Before a b = (s : ℕ) × (t : ℕ) × IsLastStopTime c ss a s × IsFirstStopTime c ss b t × (t < s)

-- what is told of a gate's inputs: the time at which they meet, or that there is none
abbrev pub IsMeetingTimeTrue : Circuit → List StopLine → Option ℕ → List ℕ → Type 0
IsMeetingTimeTrue c ss (Some t) ws = LastStopsMeetAt c ss ws t
IsMeetingTimeTrue c ss None ws = (t : ℕ) → ¬ LastStopsMeetAt c ss ws t

-- a line names a gate of the circuit, and is right about it
abbrev pub IsTimeLineTrue : Circuit → List StopLine → TimeLine → Type 0
IsTimeLineTrue c ss (line.Delay k n gap) =
    (g : Gate) × (slice_get c.netlist.gates k ≡ Some g) × (g.kind ≡ Delay n)
    × ((a b : ℕ) → g.ins ≡ a ∷ [] → g.outs ≡ b ∷ [] → IsDelayGapTrue c ss gap a b)
IsTimeLineTrue c ss (line.Meet k at) =
    (g : Gate) × (slice_get c.netlist.gates k ≡ Some g) × IsMeetingTimeTrue c ss at g.ins
