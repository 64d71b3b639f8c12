-- The names of the ports of a layout that was read.
use Rattle.pattern.proofs.Imports.{AllByRecursion, ArePortsNamed, LayoutHeader, LayoutLine, List, None, Option}
use Rattle.pattern.proofs.Imports.{PortNameLists, [], arith, common_steps, layout_grammar, line_fault, name_fault, ◌++◌}
use Rattle.pattern.proofs.Imports.{◌∷◌, ◌≡◌}
use Rattle.section_text.specs.declared.limits.Limits.{Limits}
use Rattle.section_text.proofs.Good.{AreFaultless, IsFaultless}
use Rattle.pattern.specs.Lines.{layout_line_fault}
use Rattle.section_text.proofs.Codes.{no_code_first, no_code_second}

named_part : (ports : Option PortNameLists) (s : LayoutHeader) (before : List LayoutLine) (part : LayoutLine) →
    layout_line_fault ports s before part ≡ None → name_fault ports part ≡ None
unfolding layout_line_fault line_fault
named_part ports s before part e = grind (arith, common_steps, no_code_first, no_code_second)

named_parts : (l : Limits) (ports : Option PortNameLists) (s : LayoutHeader) (before parts : List LayoutLine) →
    AreFaultless (layout_grammar l ports) s before parts → AllByRecursion (λ part. name_fault ports part ≡ None) parts
named_parts l ports s before [] good = tt
named_parts l ports s before (part ∷ parts) good =
    grind (arith, common_steps, named_part, no_code_second, named_parts l ports s (before ++ part ∷ []) parts good.1)

-- where they have no fault
pub faultless_named : (l : Limits) (ports : Option PortNameLists) (s : LayoutHeader) (parts : List LayoutLine) →
    IsFaultless (layout_grammar l ports) s parts → ArePortsNamed ports parts
faultless_named l ports s parts good = grind (arith, common_steps, named_parts)
