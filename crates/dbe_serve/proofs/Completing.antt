-- Where all is within the rules and no object fails, a run comes to its end or memory runs out.
use Rattle.std.proofs.Common.{◌≡◌, ◌≢◌, ◌⊎◌, ◌<◌, ◌≤◌, ℕ, true, List, Some, length, refl, inl, inr, arith}
use Rattle.std.specs.declared.option.Option.{Option}
use Rattle.dbe_io.specs.Causes.{HasCause, Rose}
use Rattle.dbe_config.specs.declared.fault.ConfigFault.{ConfigFault}
use Rattle.dbe_serve.specs.Faults.{OneHasCause, is_read, is_write, is_table, is_dice}
use Rattle.dbe_serve.specs.Rules.{IsWithinRules}
use Rattle.dbe_serve.specs.Stops.{HasLongLine}
use Rattle.dbe_serve.specs.declared.status.Status.{Status}
use Rattle.dbe_serve.specs.declared.status.Status.TheVariants as s

no_count_past : (n : ℕ) → 1073741824 < n → n ≤ 1073741824 → ⊥
no_count_past n long short = omega (arith, long, short)

neither_rose : (o o' i i' : ℕ) → OneHasCause true o o' i i' → ¬ Rose o o' → ¬ Rose i i' → ⊥
neither_rose o o' i i' (inl p) no_fault no_idle = no_fault p.0.1
neither_rose o o' i i' (inr p) no_fault no_idle = no_idle p.1.1

module _ (arguments : ℕ) (config script : Option (List ℕ)) (r r' o o' i i' t t' d d' : ℕ)
    (rules : IsWithinRules arguments config script) (no_read : ¬ Rose r r') (no_fault : ¬ Rose o o')
    (no_idle : ¬ Rose i i') (no_table : ¬ Rose t t') (no_dice : ¬ Rose d d') where
  pub complete : (status : Status) → HasCause (is_read status) r r' →
      (status ≡ s.LineTooLong → (bytes : List ℕ) → script ≡ Some bytes → HasLongLine bytes) →
      (status ≡ s.ScriptTooLong → (bytes : List ℕ) → script ≡ Some bytes → 1073741824 < length bytes) →
      OneHasCause (is_write status) o o' i i' → HasCause (is_table status) t t' → HasCause (is_dice status) d d' →
      status ≢ s.Arguments →
      ((f : ConfigFault) → status ≢ s.Config f) → (status ≡ s.Done) ⊎ (status ≡ s.Memory)
  complete s.Done read line long write table dice arguments config = inl refl
  complete s.Memory read line long write table dice arguments config = inr refl
  complete s.Arguments read line long write table dice arguments config = absurd (arguments refl)
  complete (s.Config f) read line long write table dice arguments config = absurd (config f refl)
  complete s.Read read line long write table dice arguments config = absurd (no_read read.1)
  complete s.LineTooLong read line long write table dice arguments config =
      absurd (rules.no_long_line (line refl rules.script_bytes rules.script_told))
  complete s.ScriptTooLong read line long write table dice arguments config =
      absurd (no_count_past (length rules.script_bytes) (long refl rules.script_bytes rules.script_told) rules.short)
  complete s.Write read line long write table dice arguments config =
      absurd (neither_rose o o' i i' write no_fault no_idle)
  complete s.Table read line long write table dice arguments config = absurd (no_table table.1)
  complete s.Dice read line long write table dice arguments config = absurd (no_dice dice.1)
