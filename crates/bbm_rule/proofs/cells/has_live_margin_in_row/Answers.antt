use Rattle.bbm_rule.proofs.Imports.{arith, false, inl, inr, is_board_cell, ltb-true, refl, sym, ℕ, ◌%◌, ◌*◌, ◌+◌, ◌-◌}
use Rattle.bbm_rule.proofs.Imports.{◌/◌, ◌≡◌}
use Rattle.lemmas.proofs.Common.{OnTrue_from}
use Rattle.bbm_rule.proofs.BoardLemmas.{not_inner_column, not_inner_first_row, not_inner_row}
use Rattle.bbm_rule.proofs.cells.has_live_margin_in_row.Goals.{then-is_live_in-via-then-is_live_in}
use Rattle.bbm_rule.proofs.cells.has_live_margin_in_row.Goals.{then-is_live_in-via-else-is_live_in+then-is_live_in-2}
use Rattle.bbm_rule.proofs.cells.has_live_margin_in_row.Goals as goal

pub returns-then-is_live_in-clause-any_live : goal.returns-then-is_live_in-clause-any_live
returns-then-is_live_in-clause-any_live c = elim c.then-is_live_in.branch [
  | then-is_live_in-via-then-is_live_in w ↦ record {
    x = 0;
    y = c.args.y;
    column = omega arith;
    row = c.requires.row;
    outer = refl;
    lives = let e : 64 * c.args.stride * c.args.y + 0 ≡ 64 * (c.args.stride * c.args.y) + 0 = omega arith in
        rw e (sym w.if-is_live_in.ensures);
  }
  | then-is_live_in-via-else-is_live_in+then-is_live_in-2 w ↦ record {
    x = c.args.width + 1;
    y = c.args.y;
    column = omega arith;
    row = c.requires.row;
    outer = not_inner_column c.args.width c.args.height (c.args.width + 1) c.args.y (omega arith);
    lives = let e : 64 * c.args.stride * c.args.y + (c.args.width + 1)
        ≡ 64 * (c.args.stride * c.args.y + (c.args.width + 1) / 64) + (c.args.width + 1) % 64 = omega arith in
        rw e (sym w.if-is_live_in-2.ensures);
  }
]

pub returns-clause-any_live : goal.returns-clause-any_live
returns-clause-any_live c = OnTrue_from _ _ (λ h.
    let found = ltb-true c.next_marked.result (64 * (c.args.stride * c.args.y) + (c.args.width + 2)) h in
    record {
      x = c.next_marked.result - 64 * (c.args.stride * c.args.y);
      y = c.args.y;
      column = omega (arith, found);
      row = c.requires.row;
      outer = outer (c.next_marked.result - 64 * (c.args.stride * c.args.y));
      lives = let e : 64 * c.args.stride * c.args.y + (c.next_marked.result - 64 * (c.args.stride * c.args.y))
          ≡ c.next_marked.result = omega (arith, c.next_marked.ensures.range.0) in
          rw e (c.next_marked.ensures.marked found);
    })
  where
    outer : (x : ℕ) → is_board_cell c.args.width c.args.height x c.args.y ≡ false
    outer x = elim c.else-y-gt0.either [
      | inl over ↦ not_inner_row c.args.width c.args.height x c.args.y over.1
      | inr le ↦ let e : c.args.y ≡ 0 = omega (arith, le) in
          rw e (not_inner_first_row c.args.width c.args.height x)
    ]
