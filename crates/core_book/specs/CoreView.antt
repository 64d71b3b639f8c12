-- The fields of a core, and its view
use Rattle.std.specs.Prelude.{◌≤◌, ℕ, List, length, map}
use Rattle.std.specs.declared.vec.Vec.{Vec}
use Rattle.std.specs.declared.alloc.Global.{Global}
use Rattle.core_book.specs.Core.{CoreView, IsCore, job_count_of}
use Rattle.core_book.specs.declared.machine.Core.TheInside.{Inside}
use Rattle.lemmas.specs.Bounds.{max_modules}

-- the lists in a list of `Vec`
abbrev pub lists_of : List (Vec ℕ Global) → List (List ℕ)
lists_of = map (λ v. v.items)

-- the view of a core, from its fields
abbrev pub core_view : Inside → CoreView
core_view a = record { next = a.next; draws = lists_of a.draws.items; book = a.book }

-- the fields of every core: a core of at most 65,536 numbers and at most 64 seats
pub record AreCoreFields (a : Inside) : Type 0 where
  pub core : IsCore (core_view a)
  pub numbers : job_count_of (core_view a) ≤ max_modules
  pub seats : length a.draws.items ≤ 64
