-- Laws of the layout section.
use Rattle.std.specs.Prelude.{◌≡◌, ℕ, ◌+◌, ◌%◌, ◌==◌, ◌&&◌, Bool, List, length, take, drop, not, nat_le, None, Option}
use Rattle.std.specs.Prelude.{Ok}
use Rattle.std.specs.List.{flat_map}
use Rattle.section_text.specs.Words.{lines_of}
use Rattle.section_text.specs.Section.{section_of, with_line_feed}
use Rattle.section_text.specs.Ports.{PortNameLists}
use Rattle.section_text.specs.Codes.{code_if, or_else}
use Rattle.section_text.specs.declared.code.RefusalCode.{RefusalCode}
use Rattle.section_text.specs.declared.code.RefusalCode.TheVariants.{PastLimit}
use Rattle.section_text.specs.declared.limits.Limits.{Limits}
use Rattle.section_text.specs.declared.limits.Limits.TheVariants.{First, Second}
use Rattle.pattern.specs.Layout.{Pattern, parts_of}
use Rattle.pattern.specs.Grammars.{layout_grammar, layout_section}
use Rattle.pattern.specs.Lines.{cell_fault, name_fault, order_fault}
use Rattle.pattern.specs.Text.{layout_text}
use Rattle.pattern.specs.declared.layout_line.LayoutHeader.{LayoutHeader}
use Rattle.pattern.specs.declared.layout_line.LayoutLine.{LayoutLine}
use Rattle.pattern.specs.declared.layout_line.LayoutLine.TheVariants.{Mirror}

-- the text of a layout that is read is the text of the lines that it is read from
abbrev pub PrintsWhatIsRead : Type 0
PrintsWhatIsRead = (l : Limits) (ports : Option PortNameLists) (n : ℕ) (ls : List (List ℕ)) (p : Pattern) →
    section_of (layout_grammar l ports) n ls ≡ Ok (layout_section p) →
    flat_map with_line_feed (take (length (parts_of p) + 2) ls) ≡ layout_text p

-- and it is read as the same layout again, wherever it is
abbrev pub ReadsWhatIsPrinted : Type 0
ReadsWhatIsPrinted = (l : Limits) (ports : Option PortNameLists) (text : List ℕ) (from n m : ℕ) (p : Pattern) →
    section_of (layout_grammar l ports) n (drop from (lines_of text)) ≡ Ok (layout_section p) →
    section_of (layout_grammar l ports) m (lines_of (layout_text p)) ≡ Ok (layout_section p)

-- ---- limits

-- whether a side of a layout is within the first limits
abbrev pub is_side_in_first_limits : ℕ → Bool
is_side_in_first_limits n = nat_le 2 n && nat_le n 512 && (n % 2 == 0)

-- the code of a size outside the first limits: width and height even, 2 to 512, and at most 65,536 steps
abbrev pub first_limits_size_fault : LayoutHeader → Option RefusalCode
first_limits_size_fault s = code_if
    (not (is_side_in_first_limits s.w && is_side_in_first_limits s.h && nat_le s.steps 65536)) PastLimit

-- whether a side of a mirror is within the first limits
abbrev pub is_mirror_side_in_first_limits : ℕ → Bool
is_mirror_side_in_first_limits n = nat_le 1 n && nat_le n 512

-- the code of a mirror outside the first limits: its sides are 1 to 512
abbrev pub first_limits_mirror_fault : LayoutLine → Option RefusalCode
first_limits_mirror_fault (Mirror r) =
    code_if (not (is_mirror_side_in_first_limits r.w && is_mirror_side_in_first_limits r.h)) PastLimit
first_limits_mirror_fault _ = None

-- with the first limits a size is tested as in a text without the line `limits 2`
abbrev pub FirstSizeLimitsAreUnchanged : Type 0
FirstSizeLimitsAreUnchanged = (ports : Option PortNameLists) (s : LayoutHeader) →
    (layout_grammar First ports).header_fault s ≡ first_limits_size_fault s

-- and so is a line: by its order, the sides of a mirror, its name, and its cells
abbrev pub FirstLineLimitsAreUnchanged : Type 0
FirstLineLimitsAreUnchanged =
    (ports : Option PortNameLists) (s : LayoutHeader) (before : List LayoutLine) (part : LayoutLine) →
    (layout_grammar First ports).item_fault s before part
    ≡ or_else (order_fault before part)
    (or_else (first_limits_mirror_fault part) (or_else (name_fault ports part) (cell_fault s before part)))

-- what passes the first limits passes the second ones
pub record SecondLimitsAreWider : Type 0 where
  pub sizes : (ports : Option PortNameLists) (s : LayoutHeader) → (layout_grammar First ports).header_fault s ≡ None →
      (layout_grammar Second ports).header_fault s ≡ None
  pub lines : (ports : Option PortNameLists) (s : LayoutHeader) (before : List LayoutLine) (part : LayoutLine) →
      (layout_grammar First ports).item_fault s before part ≡ None →
      (layout_grammar Second ports).item_fault s before part ≡ None
