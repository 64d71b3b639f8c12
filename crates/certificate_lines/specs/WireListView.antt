-- The wires that are local in a module as a list, by the fields that keep them
use Rattle.std.specs.Prelude.{◌≡◌, ℕ, ◌-◌, ◌*◌, List, vec_len, vec_capacity}
use Rattle.bbm_rule.specs.Rows.{cell_at}
use Rattle.module_box.specs.Locals.{is_among}
use Rattle.certificate_lines.specs.declared.wire_list.WireList.TheInside.{Inside}

-- the wires in their order, for how many more there is room, and below which number there is room for a wire
pub record WireListView : Type 0 where
  pub wires : List ℕ
  pub spare : ℕ
  pub limit : ℕ

-- the view of a list, from its fields
abbrev pub wire_list_view : Inside → WireListView
wire_list_view a = record {
  wires = a.wires.items;
  spare = vec_capacity a.wires - vec_len a.wires;
  limit = 64 * vec_len a.marks;
}

-- the fields of every list: the mark of each number says whether it is in the list
pub record AreWireListFields (a : Inside) : Type 0 where
  pub marked : (w : ℕ) → cell_at a.marks.items w ≡ is_among a.wires.items w

-- the same numbers have a mark
abbrev pub MarksSameNumbers : List ℕ → List ℕ → Type 0
MarksSameNumbers old new = (w : ℕ) → cell_at new w ≡ cell_at old w
