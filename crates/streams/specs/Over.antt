-- The reader or writer inside an `Over`.
use Rattle.std.specs.Prelude.{Bool}
use Rattle.streams.specs.declared.over.Over.{Over}

-- the reader or writer that is wrapped
abbrev pub inner_of : {T : Type 0} → Over T → T
inner_of over = over.inner

-- whether it has failed
abbrev pub failed_of : {T : Type 0} → Over T → Bool
failed_of over = over.failed
