use Rattle.section_text.proofs.Imports.{ap₂, bytes_eq, ◌∙◌}
use Rattle.section_text.proofs.NameLemmas.{same_by_fields}
use Rattle.section_text.proofs.name.NamePartialEq.eq.Goals as goal

pub returns : goal.returns
returns c =
    c.are_same_bytes.ensures
    ∙ same_by_fields c.self.inside c.other.inside c.self.invariant c.other.invariant
    ∙ ap₂ bytes_eq c.self.view_is c.other.view_is
