use Rattle.headline.proofs.AcceptedTexts as texts
use Rattle.headline.proofs.laws.something_is_refuted.Goals as goal

pub returns : goal.returns
returns c = record { meeting = texts.plain_no_text_refuted; design = texts.design_refuted }
