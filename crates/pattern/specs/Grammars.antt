-- The layout section.
use Rattle.std.specs.Prelude.{List, Option}
use Rattle.section_text.specs.Section.{Grammar}
use Rattle.section_text.specs.Ports.{PortNameLists}
use Rattle.pattern.specs.declared.layout_line.LayoutHeader.{LayoutHeader}
use Rattle.pattern.specs.declared.layout_line.LayoutLine.{LayoutLine}
use Rattle.pattern.specs.Layout.{Pattern, parts_of}
use Rattle.pattern.specs.Forms.{form_of}
use Rattle.pattern.specs.Lines.{size_fault, layout_line_fault, missing_port_fault, order_fault, text_limit_fault}
use Rattle.pattern.specs.Lines.{text_size_fault}
use Rattle.section_text.specs.Codes.{or_else}
use Rattle.section_text.specs.declared.limits.Limits.{Limits}

-- the section in a text with these limits, if ports have these names, or any
abbrev pub layout_grammar : Limits → Option PortNameLists → Grammar LayoutHeader LayoutLine
layout_grammar l ports = record {
  form = form_of;
  header_fault = λ s. or_else (text_size_fault l s) (size_fault s);
  item_fault = λ s before part. or_else (order_fault before part)
      (or_else (text_limit_fault l part) (layout_line_fault ports s before part));
  end_fault = λ size parts. missing_port_fault ports parts;
}

-- what the section of a layout gives: its first line and the others
abbrev pub layout_section : Pattern → LayoutHeader × List LayoutLine
layout_section p = (p.size, parts_of p)
