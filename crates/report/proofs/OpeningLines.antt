-- The lines before the verdict, made in one piece.
use Rattle.lemmas.proofs.Common.{[], ◌++◌, ◌∙◌, ◌∷◌, ◌≡◌, List, ap, append-nil, append_assoc, codes, refl, ℕ, decimal}
use Rattle.hex.specs.Hex.{encode_lower}
use Rattle.section_text.specs.Spelling.{line_text}
use Rattle.report.specs.ReportText.{lines_before_verdict}

-- the lines before the verdict, from the digits of the digest and of the count
piece : List ℕ → List ℕ → List ℕ
piece h m = codes "bbmcheck 1\ncertificate " ++ (h ++ (codes "\nmodules " ++ (m ++ codes "\n")))

arranged : (h m : List ℕ) → piece h m
    ≡ line_text (codes "bbmcheck") (codes "1" ∷ []) ++ line_text (codes "certificate") (h ∷ [])
    ++ line_text (codes "modules") (m ∷ [])
unfolding piece
arranged h m = rw (append-nil h, append-nil m, append_assoc h (10 ∷ []) (codes "modules " ++ (m ++ 10 ∷ []))) refl

pub opening_made : (digest : List ℕ) (modules : ℕ) (digits text : List ℕ) → digits ≡ encode_lower digest →
    text ≡ codes "bbmcheck 1\ncertificate " ++ (digits ++ (codes "\nmodules " ++ (decimal modules ++ codes "\n"))) →
    text ≡ lines_before_verdict digest modules
unfolding piece
opening_made digest modules digits text same made =
    made ∙ ap (λ h. piece h (decimal modules)) same ∙ arranged (encode_lower digest) (decimal modules)
