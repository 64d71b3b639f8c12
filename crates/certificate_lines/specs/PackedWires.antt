-- A wire in two bytes, and its view
use Rattle.std.specs.Prelude.{◌≡◌, ℕ, zero, suc, None, Some, Option}
use Rattle.std.proofs.Common.{refl}
use Rattle.certificate_lines.specs.declared.ports.PackedWire.TheInside.{Inside}

-- the wire of a code: one less than the code, or none if the code is 0
abbrev pub wire_of_code : ℕ → Option ℕ
wire_of_code zero = None
wire_of_code (suc n) = Some n

-- the code of a wire
abbrev pub code_of_wire : Option ℕ → ℕ
code_of_wire None = zero
code_of_wire (Some n) = suc n

-- the field follows from the wire
pub code_back : (a : Inside) → Unit {0} → record { code = code_of_wire (wire_of_code a.code) } ≡ a
code_back a _ = λ i. record { code = same a.code i }
  where
    same : (n : ℕ) → code_of_wire (wire_of_code n) ≡ n
    same zero = refl
    same (suc n) = refl
