-- The modules of lines, one after the other.
use Rattle.certificate_lines.proofs.Imports.{Box2, CertificateLine, List, Module, ModuleLines, [], add_line, ap}
use Rattle.certificate_lines.proofs.Imports.{append-nil, append_assoc, arith, body_lines, change_last, common_steps}
use Rattle.certificate_lines.proofs.Imports.{false, is_module_line, module_with_line, modules_of, refl, sym, true, ◌++◌}
use Rattle.certificate_lines.proofs.Imports.{◌∙◌, ◌∷◌, ◌≡◌}
use Rattle.lemmas.proofs.Common.{fold}

pub inner_module : (e : CertificateLine) (es : List CertificateLine) → is_module_line e ≡ true →
    body_lines (e ∷ es) ≡ []
unfolding body_lines
inner_module e es m = rw m refl

pub inner_other : (e : CertificateLine) (es : List CertificateLine) → is_module_line e ≡ false →
    body_lines (e ∷ es) ≡ e ∷ body_lines es
unfolding body_lines
inner_other e es m = rw m refl

-- the modules of further lines after some
abbrev onward : List ModuleLines → List CertificateLine → List ModuleLines
onward ms es = fold add_line ms es

pub change_pushed : {X : Type 0} (f : X → X) (xs : List X) (x : X) → change_last f (xs ++ x ∷ []) ≡ xs ++ f x ∷ []
unfolding change_last
change_pushed f [] x = refl
change_pushed f (y ∷ []) x = refl
change_pushed f (y ∷ z ∷ xs) x = ap (λ ys. y ∷ ys) (change_pushed f (z ∷ xs) x)

-- a line leaves all modules but the last as they are
before_last : (ms : List ModuleLines) (m : ModuleLines) (e : CertificateLine) →
    add_line (ms ++ m ∷ []) e ≡ ms ++ add_line (m ∷ []) e
unfolding add_line change_last
before_last ms m e = grind (arith, common_steps, append_assoc, change_pushed)

-- further lines leave them too
abbrev Apart : List CertificateLine → Type 0
Apart es = (ms : List ModuleLines) (m : ModuleLines) → onward (ms ++ m ∷ []) es ≡ ms ++ onward (m ∷ []) es

apart_after : (e : CertificateLine) (es : List CertificateLine) → Apart es → (ms : List ModuleLines) (m : ModuleLines) →
    onward (ms ++ add_line (m ∷ []) e) es ≡ ms ++ onward (add_line (m ∷ []) e) es
unfolding add_line change_last
apart_after (Module b) es h ms m =
    ap (λ ns. onward ns es) (sym (append_assoc ms (m ∷ []) (record { area = b; lines = [] } ∷ []))) ∙
    h (ms ++ m ∷ []) (record { area = b; lines = [] }) ∙
    append_assoc ms (m ∷ []) (onward (record { area = b; lines = [] } ∷ []) es) ∙
    ap (λ ns. ms ++ ns) (sym (h (m ∷ []) (record { area = b; lines = [] })))
apart_after e es h ms m = h ms (module_with_line e m)

pub apart : (es : List CertificateLine) (ms : List ModuleLines) (m : ModuleLines) →
    onward (ms ++ m ∷ []) es ≡ ms ++ onward (m ∷ []) es
apart [] ms m = refl
apart (e ∷ es) ms m = ap (λ ns. onward ns es) (before_last ms m e) ∙ apart_after e es (apart es) ms m

-- a module with further lines
abbrev extended : ModuleLines → List CertificateLine → ModuleLines
extended m es = record m { lines = m.lines ++ es }

-- lines before any module line belong to none
pub split_other : (e : CertificateLine) (es : List CertificateLine) → is_module_line e ≡ false →
    modules_of (e ∷ es) ≡ modules_of es
unfolding modules_of add_line change_last
split_other e es h1 = grind (arith, common_steps)

module_first : (b : Box2) (es : List CertificateLine) →
    modules_of (Module b ∷ es) ≡ onward (record { area = b; lines = [] } ∷ []) es
unfolding modules_of add_line
module_first b es = refl

abbrev Extends : List CertificateLine → Type 0
Extends es = (m : ModuleLines) → onward (m ∷ []) es ≡ extended m (body_lines es) ∷ modules_of es

extends_more : (m : ModuleLines) (e : CertificateLine) (es : List CertificateLine) → is_module_line e ≡ false →
    Extends es → onward (module_with_line e m ∷ []) es ≡ extended m (body_lines (e ∷ es)) ∷ modules_of (e ∷ es)
extends_more m e es o h = grind (arith, common_steps, append_assoc, inner_other, extended, split_other)

extends_none : Extends []
unfolding body_lines modules_of
extends_none m = ap (λ xs. record m { lines = xs } ∷ []) (sym (append-nil m.lines))

extends_step : (e : CertificateLine) (es : List CertificateLine) → Extends es → (m : ModuleLines) →
    onward (add_line (m ∷ []) e) es ≡ extended m (body_lines (e ∷ es)) ∷ modules_of (e ∷ es)
unfolding add_line change_last
extends_step (Module b) es h m =
    apart es (m ∷ []) (record { area = b; lines = [] }) ∙
    ap (λ ns. m ∷ ns) (sym (module_first b es)) ∙
    ap (λ xs. record m { lines = xs } ∷ modules_of (Module b ∷ es))
    (sym (ap (λ xs. m.lines ++ xs) (inner_module (Module b) es refl) ∙ append-nil m.lines))
extends_step e es h m = extends_more m e es refl h

-- the lines before the next module line are of the last module
extends : (es : List CertificateLine) → Extends es
extends [] m = extends_none m
extends (e ∷ es) m = extends_step e es (extends es) m

-- the modules of lines from a module line on
pub split_module : (b : Box2) (es : List CertificateLine) →
    modules_of (Module b ∷ es) ≡ record { area = b; lines = body_lines es } ∷ modules_of es
split_module b es = module_first b es ∙ extends es (record { area = b; lines = [] })
