-- The end of a command for each status
use Rattle.check_main.proofs.Imports.{CheckFault, Err, IfErr, IfOk, Memory, No, Ok, OnOk, Outcome, Read, Refused}
use Rattle.check_main.proofs.Imports.{Result, TooLong, Write, Yes, arith, inl, inr, refl, status_for, subst, ◌≡◌, ◌≢◌}
use Rattle.check_main.proofs.Imports.{◌≤◌, ◌⊎◌}

-- no two ends have the status of one outcome
pub outcome_of : (outcome : Outcome) (ended : Result Outcome CheckFault) →
    status_for ended ≡ status_for (Ok outcome) → ended ≡ Ok outcome
outcome_of Yes (Ok Yes) e = refl
outcome_of Yes (Ok No) e = absurd (omega (arith, e))
outcome_of Yes (Ok Refused) e = absurd (omega (arith, e))
outcome_of Yes (Err Read) e = absurd (omega (arith, e))
outcome_of Yes (Err Write) e = absurd (omega (arith, e))
outcome_of Yes (Err TooLong) e = absurd (omega (arith, e))
outcome_of Yes (Err Memory) e = absurd (omega (arith, e))
outcome_of No (Ok Yes) e = absurd (omega (arith, e))
outcome_of No (Ok No) e = refl
outcome_of No (Ok Refused) e = absurd (omega (arith, e))
outcome_of No (Err Read) e = absurd (omega (arith, e))
outcome_of No (Err Write) e = absurd (omega (arith, e))
outcome_of No (Err TooLong) e = absurd (omega (arith, e))
outcome_of No (Err Memory) e = absurd (omega (arith, e))
outcome_of Refused (Ok Yes) e = absurd (omega (arith, e))
outcome_of Refused (Ok No) e = absurd (omega (arith, e))
outcome_of Refused (Ok Refused) e = refl
outcome_of Refused (Err Read) e = absurd (omega (arith, e))
outcome_of Refused (Err Write) e = absurd (omega (arith, e))
outcome_of Refused (Err TooLong) e = absurd (omega (arith, e))
outcome_of Refused (Err Memory) e = absurd (omega (arith, e))

-- only a fault of a device has the status 4
pub device_of : (ended : Result Outcome CheckFault) → status_for ended ≡ 4 →
    (ended ≡ Err Read) ⊎ (ended ≡ Err Write) ⊎ (ended ≡ Err TooLong)
device_of (Ok Yes) e = absurd (omega (arith, e))
device_of (Ok No) e = absurd (omega (arith, e))
device_of (Ok Refused) e = absurd (omega (arith, e))
device_of (Err Read) e = inl refl
device_of (Err Write) e = inr (inl refl)
device_of (Err TooLong) e = inr (inr refl)
device_of (Err Memory) e = absurd (omega (arith, e))

-- only want of memory has the status 5
pub memory_of : (ended : Result Outcome CheckFault) → status_for ended ≡ 5 → ended ≡ Err Memory
memory_of (Ok Yes) e = absurd (omega (arith, e))
memory_of (Ok No) e = absurd (omega (arith, e))
memory_of (Ok Refused) e = absurd (omega (arith, e))
memory_of (Err Read) e = absurd (omega (arith, e))
memory_of (Err Write) e = absurd (omega (arith, e))
memory_of (Err TooLong) e = absurd (omega (arith, e))
memory_of (Err Memory) e = refl

-- no end has another status
pub status_known : (ended : Result Outcome CheckFault) → (status_for ended ≤ 5) × (status_for ended ≢ 2)
status_known (Ok Yes) = (omega arith, λ e. omega (arith, e))
status_known (Ok No) = (omega arith, λ e. omega (arith, e))
status_known (Ok Refused) = (omega arith, λ e. omega (arith, e))
status_known (Err Read) = (omega arith, λ e. omega (arith, e))
status_known (Err Write) = (omega arith, λ e. omega (arith, e))
status_known (Err TooLong) = (omega arith, λ e. omega (arith, e))
status_known (Err Memory) = (omega arith, λ e. omega (arith, e))

-- an end with another status than 4 is an outcome, or out of memory
pub outcome_or_memory : {P Q : Type 0} (ended : Result Outcome CheckFault) → status_for ended ≢ 4 → OnOk ended P →
    (P → Q) → (ended ≡ Err Memory → Q) → Q
outcome_or_memory (Ok Yes) four held of_outcome of_memory = of_outcome held
outcome_or_memory (Ok No) four held of_outcome of_memory = of_outcome held
outcome_or_memory (Ok Refused) four held of_outcome of_memory = of_outcome held
outcome_or_memory (Err Read) four held of_outcome of_memory = absurd (four refl)
outcome_or_memory (Err Write) four held of_outcome of_memory = absurd (four refl)
outcome_or_memory (Err TooLong) four held of_outcome of_memory = absurd (four refl)
outcome_or_memory (Err Memory) four held of_outcome of_memory = of_memory refl

-- a fact for outcomes, at one
pub at_outcome : (P : Outcome → Type 0) (ended : Result Outcome CheckFault) (outcome : Outcome) → ended ≡ Ok outcome →
    IfOk ended P → P outcome
at_outcome P ended outcome is held = subst (λ (e : Result Outcome CheckFault). IfOk e P) is held

-- a fact for faults, at one
pub at_fault : (P : CheckFault → Type 0) (ended : Result Outcome CheckFault) (fault : CheckFault) → ended ≡ Err fault →
    IfErr ended P → P fault
at_fault P ended fault is held = subst (λ (e : Result Outcome CheckFault). IfErr e P) is held
