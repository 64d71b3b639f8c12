-- The results of reading a bundle.
use Rattle.std.specs.Prelude.{◌≡◌, ℕ, List, Some, Ok}
use Rattle.circuit.specs.Grammars.{circuit_grammar, circuit_section}
use Rattle.circuit.specs.declared.circuit_line.CircuitLine.{CircuitLine}
use Rattle.core_book.specs.Concluding.{port_names_of}
use Rattle.pattern.specs.Grammars.{layout_grammar, layout_section}
use Rattle.pattern.specs.Layout.{Pattern, parts_of}
use Rattle.section_text.specs.Feeds.{FeedView}
use Rattle.section_text.specs.Section.{Reads}
use Rattle.section_text.specs.declared.limits.Limits.{Limits}
use Rattle.section_text.specs.declared.fault.ReadFault.{ReadFault}
use Rattle.section_text.specs.declared.fault.ReadFault.TheVariants as read
use Rattle.section_text.specs.declared.fault.Refusal.{Refusal}
use Rattle.certificate.specs.Grammars.{CertView}
use Rattle.report.specs.ReportText.{refusal_line}
use Rattle.answers.specs.declared.outcome.Outcome.{Outcome}
use Rattle.answers.specs.declared.outcome.Outcome.TheVariants as ended
use Rattle.answers.specs.BundleText.{Bundle}

-- the bundle of a certificate, its circuit and its layout
abbrev pub bundle_of_certificate : CertView → Bundle
bundle_of_certificate c =
    record {
      circuit = c.circuit;
      size = c.layout.size;
      parts = parts_of c.layout;
      version = c.version;
      entries = c.entries;
    }

-- the answer is the line for this refusal
pub record TellsRefusal (fault : ReadFault) (output : List ℕ) (outcome : Outcome) : Type 0 where
  pub refusal : Refusal
  pub refused : fault ≡ read.Refused refusal
  pub says : output ≡ refusal_line refusal
  pub ends : outcome ≡ ended.Refused

-- With these limits a circuit was read from the feed `old`, and then a layout with the circuit's port names. `new` is
-- the feed after both.
pub record IsDesignRead (l : Limits) (old new : FeedView) (circuit : List CircuitLine) (layout : Pattern) : Type 0 where
  pub between : FeedView
  pub circuit_read : Reads (circuit_grammar l) circuit_section old between (Ok circuit)
  pub layout_read : Reads (layout_grammar l (Some (port_names_of circuit))) layout_section between new (Ok layout)
