use Rattle.lanes.proofs.Imports.{AreNumberCellsUnmarked, IsNumberUnmarked, List, arith, inl, inr, mul-le-mul_left}
use Rattle.lanes.proofs.Imports.{subst, ℕ, ◌*◌, ◌+◌, ◌<◌, ◌≡◌, ◌≤◌, ◌⊎◌}
use Rattle.lanes.specs.Borders.{AreNumbersSkippableBetween}
use Rattle.lanes.specs.declared.marked_planes.MarkedPlanes.{MarkedPlanes}
use Rattle.lanes.proofs.LiveLemmas.{dead_at}
use Rattle.lanes.proofs.marked_planes.MarkedPlanes.border_marks_to_check.Goals as goal

-- a number without a mark in a word of marks on ring and halo
skippable : (f : MarkedPlanes) (others : List ℕ) (u : ℕ) →
    IsNumberUnmarked f.border_marks.items u ⊎ (AreNumberCellsUnmarked f.live_marks u × IsNumberUnmarked others u) →
    AreNumbersSkippableBetween u (u + 1) others f.planes
skippable f others u says column row lc lr after before =
    let s = f.planes.stride in
    let at : u ≡ s * row + column = omega arith in
    let within : s * row + column < s * f.planes.rows =
    let m : s * (row + 1) ≤ s * f.planes.rows = mul-le-mul_left s (omega arith) in omega arith in
    elim says [
      | inl free ↦ inl (f.all_inner column row lc lr (subst (IsNumberUnmarked f.border_marks.items) at free))
      | inr free ↦ inr (
        dead_at (s * row + column) f.live_marks f.planes within f.all_dead (rw at at free.0),
        subst (IsNumberUnmarked others) at free.1,
      )
    ]

pub returns-then-self : goal.returns-then-self
returns-then-self c =
    let f = c.args.self.now in
    let says = rw c.deref.ensures.value at c.marked_in_first_and_other-word.ensures in
    let recent = c.marked_in_word_and_any.ensures in
    record {
      unset_need_no_look = λ u e none. elim (recent u e none) [
        | inl unset ↦ inl (skippable f c.args.others.now u (says u e unset))
        | inr free ↦ inr (
          (c.if-self.true, rw c.deref-then-self.ensures.value at free.0),
          free.1,
          free.2,
        )
      ];
    }

pub returns-else-self : goal.returns-else-self
returns-else-self c =
    let says = rw c.deref.ensures.value at c.marked_in_first_and_other-word.ensures in
    record {
      unset_need_no_look = λ u e none. inl (skippable c.args.self.now c.args.others.now u (says u e none));
    }
