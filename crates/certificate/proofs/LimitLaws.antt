-- The first limits are those of old, and the second ones let in more.
use Rattle.certificate.proofs.Imports.{CertificateLine, List, None, PastLimit, Setting, SomethingMissing, arith}
use Rattle.certificate.proofs.Imports.{both_none, common_steps, entry_fault, true, ℕ, ◌&&◌, ◌||◌, ◌≡◌}
use Rattle.lemmas.proofs.Common.{Bool, Option, nat_le, not}
use Rattle.lemmas.specs.Bounds.{max_modules}
use Rattle.section_text.specs.Codes.{code_if, or_else}
use Rattle.section_text.specs.declared.code.RefusalCode.{RefusalCode}
use Rattle.section_text.specs.declared.limits.Limits.TheVariants.{First, Second}
use Rattle.certificate_lines.specs.Rules.{module_box_code, module_limit_fault, module_line_code}
use Rattle.certificate.specs.Laws.{FirstLimitsAreUnchanged, SecondLimitsAreWider, first_limits_entry_fault}

-- what is past the second limit is past the first one
past_first : (n : ℕ) → nat_le max_modules n ≡ true → nat_le 1024 n ≡ true
past_first n e = grind (arith, common_steps)

-- the tests of a box: the module before it, its sides, the count by the first limit and by the largest, its place
count_first : (i w h a b : Bool) (place cells : Option RefusalCode) → (b ≡ true → a ≡ true) →
    or_else (code_if (a && not i) PastLimit)
    (or_else (or_else (code_if i SomethingMissing) (or_else (code_if (w || h || b) PastLimit) place)) cells)
    ≡ or_else (code_if i SomethingMissing) (or_else (code_if (w || h || a) PastLimit) (or_else place cells))
count_first i w h a b place cells past = grind (arith, common_steps)

-- a line after these
counted : (g : Setting) (before : List CertificateLine) (i : CertificateLine) →
    or_else (module_limit_fault First g before i) (entry_fault g before i) ≡ first_limits_entry_fault g before i
unfolding entry_fault module_limit_fault module_line_code module_box_code
counted g before i = grind (arith, common_steps, count_first, past_first)

pub first_limits_are_unchanged : FirstLimitsAreUnchanged
first_limits_are_unchanged g version before i = grind (arith, common_steps, counted)

-- ---- the second limits

within_second : (g : Setting) (before : List CertificateLine) (i : CertificateLine) → entry_fault g before i ≡ None →
    module_limit_fault Second g before i ≡ None
unfolding entry_fault module_limit_fault module_line_code module_box_code
within_second g before i h1 = grind (arith, common_steps)

all_pass : (a b c : Option RefusalCode) → a ≡ None → b ≡ None → c ≡ None → or_else a (or_else b c) ≡ None
all_pass a b c first second third = grind (arith, common_steps)

pub second_limits_are_wider : SecondLimitsAreWider
second_limits_are_wider g version before i e = grind (arith, common_steps, both_none, all_pass, within_second)
