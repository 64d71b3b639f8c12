-- The view of a table of owners, from the fields
use Rattle.module_box.specs.declared.owners.Owners.TheInside.{Inside}
use Rattle.module_box.specs.Tiling.{OwnersView, HasOwnerTableSizes}

-- the table of owners, from the fields
abbrev pub owners_view : Inside → OwnersView
owners_view o = record { width = o.width; height = o.height; numbers = o.numbers.items }

-- the fields of every table of owners
abbrev pub AreOwnersFields : Inside → Type 0
AreOwnersFields o = HasOwnerTableSizes (owners_view o)
