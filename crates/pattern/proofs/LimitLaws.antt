-- The first limits are those of old, and the second ones let in more.
use Rattle.pattern.proofs.Imports.{Bool, LayoutLine, None, Option, RefusalCode, ap, arith, code_if, common_steps}
use Rattle.pattern.proofs.Imports.{largest_limit_code, line_fault, not, refl, ℕ, ◌&&◌, ◌∙◌, ◌≡◌}
use Rattle.lemmas.proofs.Common.{nat_le, nat_lt, ◌||◌}
use Rattle.section_text.specs.Codes.{or_else}
use Rattle.section_text.specs.declared.code.RefusalCode.TheVariants.{PastLimit}
use Rattle.section_text.specs.declared.limits.Limits.TheVariants.{First, Second}
use Rattle.pattern.specs.Laws.{FirstLineLimitsAreUnchanged, FirstSizeLimitsAreUnchanged, SecondLimitsAreWider}
use Rattle.pattern.specs.Laws.{first_limits_mirror_fault, is_side_in_first_limits}
use Rattle.pattern.specs.Lines.{is_layout_side, layout_line_fault, size_fault, text_limit_fault, text_size_fault}
use Rattle.pattern.specs.declared.layout_line.LayoutHeader.{LayoutHeader}
use Rattle.pattern.specs.declared.layout_line.LayoutLine.TheVariants.{Ball, In, Mirror, Out, Waste}
use Rattle.section_text.proofs.Codes.{no_code_first, no_code_second, none_both}

-- two tests with one code are one test
one_test : (a b : Bool) (rest : Option RefusalCode) →
    or_else (code_if a PastLimit) (or_else (code_if b PastLimit) rest) ≡ or_else (code_if (a || b) PastLimit) rest
one_test a b rest = grind (arith, common_steps)

one_code : (a b : Bool) → or_else (code_if a PastLimit) (code_if b PastLimit) ≡ code_if (a || b) PastLimit
one_code a b = grind (arith, common_steps)

-- ---- one side

layout_side : (n : ℕ) → (nat_lt 512 n || not (is_layout_side n)) ≡ not (is_side_in_first_limits n)
layout_side n = grind (arith, common_steps)

step_count : (n : ℕ) → (nat_lt 65536 n || not (nat_le n 1048576)) ≡ not (nat_le n 65536)
step_count n = grind (arith, common_steps)

-- ---- all of them

three_sizes : (p q r a b e c d f : Bool) → (p || not a) ≡ not c → (q || not b) ≡ not d → (r || not e) ≡ not f →
    ((p || (q || r)) || not (a && b && e)) ≡ not (c && d && f)
three_sizes p q r a b e c d f first second third = grind (arith, common_steps)

pub first_sizes_are_kept : FirstSizeLimitsAreUnchanged
unfolding size_fault text_size_fault
first_sizes_are_kept ports s =
    one_code _ _ ∙ ap (λ b. code_if b PastLimit)
    (three_sizes _ _ _ (is_layout_side s.w) (is_layout_side s.h) (nat_le s.steps 1048576) _ _ _
    (layout_side s.w) (layout_side s.h) (step_count s.steps))

-- the tests of a mirror, and those of any other line
mirror_kept : (part : LayoutLine) (rest : Option RefusalCode) →
    or_else (text_limit_fault First part) (or_else (largest_limit_code part) rest)
    ≡ or_else (first_limits_mirror_fault part) rest
unfolding largest_limit_code text_limit_fault
mirror_kept part rest = grind (arith, common_steps, one_test)

-- the test of the order is made twice
in_order : (order text limit name cell : Option RefusalCode) →
    or_else order (or_else text (or_else (or_else order (or_else limit name)) cell))
    ≡ or_else order (or_else text (or_else limit (or_else name cell)))
in_order order text limit name cell = grind (arith, common_steps)

pub first_lines_are_kept : FirstLineLimitsAreUnchanged
unfolding layout_line_fault line_fault
first_lines_are_kept ports s before part = grind (arith, common_steps, in_order, mirror_kept)

-- ---- the second limits

-- a line within the capacity is within the second limits
wider_size : (s : LayoutHeader) → size_fault s ≡ None → text_size_fault Second s ≡ None
unfolding size_fault text_size_fault
wider_size s e = grind (arith, common_steps)

wider_line : (part : LayoutLine) → largest_limit_code part ≡ None → text_limit_fault Second part ≡ None
unfolding largest_limit_code text_limit_fault
wider_line (Mirror r) e = grind (arith, common_steps)
wider_line (Ball c) e = refl
wider_line (In p) e = refl
wider_line (Out p) e = refl
wider_line (Waste c) e = refl

pub second_limits_are_wider : SecondLimitsAreWider
unfolding layout_line_fault line_fault
second_limits_are_wider = grind (arith, common_steps, no_code_second, none_both, wider_size, no_code_first, wider_line)
