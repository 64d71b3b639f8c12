-- The view of a finding
use Rattle.std.specs.Prelude.{ℕ, List, Option}
use Rattle.std.specs.Arc.{arc_value}
use Rattle.module_job.specs.Jobs.{JobView}
use Rattle.local_run.specs.declared.fault.Fault.{Fault}
use Rattle.local_run.specs.declared.fault.KeepFault.{KeepFault}
use Rattle.local_run.specs.declared.finding.Finding.{Finding}

-- the digest that a finding was made for
abbrev pub digest_of : Finding → List ℕ
digest_of f = f.digest

-- the number that a finding was made for
abbrev pub number_of : Finding → ℕ
number_of f = f.number

-- the job of a finding
abbrev pub job_of : Finding → JobView
job_of f = arc_value f.job

-- the fault of a finding, if it has one
abbrev pub fault_of : Finding → Option Fault
fault_of f = f.fault

-- the keep fault of a finding, if it has one
abbrev pub keep_fault_of : Finding → Option KeepFault
keep_fault_of f = f.keep
