-- The reader or writer inside a `Retrying`.
use Rattle.streams.specs.declared.retrying.Retrying.{Retrying}

-- the reader or writer that is wrapped
abbrev pub inner_of : {T : Type 0} → Retrying T → T
inner_of retrying = retrying.inner
