-- Truth values: what a test tells of its parts.
use Rattle.std.proofs.Common.{Bool, None, Some, arith, false, if◌then◌else◌, not, refl, sym, true, ◌&&◌, ◌||◌, ◌≡◌}
use Rattle.std.proofs.lemmas.Option.{same_Some}

pub true_from_not : (x : Bool) → not x ≡ false → x ≡ true
true_from_not true e = refl
true_from_not false e = sym e

pub false_from_not : (x : Bool) → not x ≡ true → x ≡ false
false_from_not true e = cc
false_from_not false e = refl

pub left_is_false : (x y : Bool) → (x || y) ≡ false → x ≡ false
left_is_false x y e = grind arith

pub or_last : (x y : Bool) → (x || (y || false)) ≡ (x || y)
or_last x y = grind arith

pub left_is_true : (x y : Bool) → (x && y) ≡ true → x ≡ true
left_is_true true y e = refl
left_is_true false y e = e

pub right_is_true : (x y : Bool) → (x && y) ≡ true → y ≡ true
right_is_true true y e = e
right_is_true false y e = cc

pub same_truth : (x y : Bool) → (x ≡ true → y ≡ true) → (y ≡ true → x ≡ true) → x ≡ y
same_truth true y f g = sym (f refl)
same_truth false true f g = g refl
same_truth false false f g = refl

pub test_failed : {A : Type 0} (b : Bool) (x : A) → (if b then Some x else None) ≡ None → b ≡ false
test_failed true x e = absurd cc
test_failed false x e = refl

pub tested_value : {A : Type 0} (b : Bool) (x y : A) → (if b then Some x else None) ≡ Some y → x ≡ y
tested_value true x y e = same_Some x y e
tested_value false x y e = absurd cc
