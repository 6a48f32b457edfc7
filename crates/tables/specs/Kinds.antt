-- What the fields of a table say, wherever their parts lie.
use Rattle.std.specs.Prelude.{ℕ, List}
use Rattle.tables.specs.declared.op.Op.{Op}
use Rattle.tables.specs.declared.op.Pace.{Pace}

pub record Output : Type 0 where
  pub pace : Pace
  pub name : List ℕ
  pub ops : List Op

pub record Trigger : Type 0 where
  pub stream : ℕ
  pub message : List ℕ

pub data Said : Type 0 where
  life : ℕ → Said
  input : List ℕ → Said
  output : Output → Said
  trigger : Trigger → Said

-- a whole table; its streams count from 0, inputs first, then outputs
pub record Table : Type 0 where
  pub life : ℕ
  pub inputs : List (List ℕ)
  pub outputs : List Output
  pub triggers : List Trigger
