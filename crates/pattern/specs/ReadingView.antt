-- The fields of a reader of layouts, and its view.
use Rattle.std.specs.Prelude.{◌≡◌, ◌||◌, ℕ, List, false}
use Rattle.std.specs.List.{list_any}
use Rattle.pattern.specs.Layout.{parts_of}
use Rattle.section_text.specs.Ports.{port_name_lists}
use Rattle.pattern.specs.declared.reading.Reading.TheInside.{Inside}
use Rattle.section_text.specs.Words.{has}
use Rattle.pattern.specs.Lines.{allows_any_name, is_input_cell_named, may_name_input, is_output_cell_named}
use Rattle.pattern.specs.Lines.{may_name_output}
use Rattle.pattern.specs.Readings.{ReadingView}

-- the view of a reader, from its fields
abbrev pub reading_view : Inside → ReadingView
reading_view a = record { limits = a.limits; ports = port_name_lists a.ports.now; layout = a.draft }

-- the fields of every reader: its sets of names are those of its ports and of its lines
pub record AreReadingFields (a : Inside) : Type 0 where
  pub known_ins : (n : List ℕ) →
      may_name_input (port_name_lists a.ports.now) n
      ≡ (allows_any_name (port_name_lists a.ports.now) || has a.known_ins.keys n)
  pub known_outs : (n : List ℕ) →
      may_name_output (port_name_lists a.ports.now) n
      ≡ (allows_any_name (port_name_lists a.ports.now) || has a.known_outs.keys n)
  pub seen_ins : allows_any_name (port_name_lists a.ports.now) ≡ false → (n : List ℕ) →
      has a.seen_ins.keys n ≡ list_any (is_input_cell_named n) (parts_of a.draft)
  pub seen_outs : allows_any_name (port_name_lists a.ports.now) ≡ false → (n : List ℕ) →
      has a.seen_outs.keys n ≡ list_any (is_output_cell_named n) (parts_of a.draft)
