-- A cell of the shipped table of messages is what the words have.
use Rattle.std.proofs.Common.{ℕ, ◌≡◌, refl, ap, ◌∙◌}
use Rattle.vm_tables.specs.Messages.{act_at, cell, kind_number, state_number}
use Rattle.vm_tables.specs.declared.acts.Act.{Act}
use Rattle.vm_tables.specs.declared.acts.MessageKind.{MessageKind}
use Rattle.vm_tables.specs.declared.acts.MessageKind.TheVariants as kind
use Rattle.vm_tables.specs.declared.acts.PageState.{PageState}
use Rattle.vm_tables.specs.declared.acts.PageState.TheVariants as state
use Rattle.vm_tables.specs.declared.acts.TheConstants.{MESSAGE_ROWS}

each_state : (P : PageState → Type 0) → P state.Dead → P state.Absent → P state.Asked → P state.Unlocked → P state.WriteLocked → P state.ReadLocked
    → (s : PageState) → P s
each_state P dead absent asked unlocked write_locked read_locked state.Dead = dead
each_state P dead absent asked unlocked write_locked read_locked state.Absent = absent
each_state P dead absent asked unlocked write_locked read_locked state.Asked = asked
each_state P dead absent asked unlocked write_locked read_locked state.Unlocked = unlocked
each_state P dead absent asked unlocked write_locked read_locked state.WriteLocked = write_locked
each_state P dead absent asked unlocked write_locked read_locked state.ReadLocked = read_locked

abbrev IsCell : MessageKind → PageState → Type 0
IsCell kind state = cell MESSAGE_ROWS.rows (kind_number kind) (state_number state) ≡ act_at kind state

pub message_cell : (kind : MessageKind) (state : PageState) → cell MESSAGE_ROWS.rows (kind_number kind) (state_number state) ≡ act_at kind state
message_cell kind.Ready = each_state (IsCell kind.Ready) refl refl refl refl refl refl
message_cell kind.SupplyUnlocked = each_state (IsCell kind.SupplyUnlocked) refl refl refl refl refl refl
message_cell kind.SupplyWriteLocked = each_state (IsCell kind.SupplyWriteLocked) refl refl refl refl refl refl
message_cell kind.SupplyReadLocked = each_state (IsCell kind.SupplyReadLocked) refl refl refl refl refl refl
message_cell kind.Unavailable = each_state (IsCell kind.Unavailable) refl refl refl refl refl refl
message_cell kind.Error = each_state (IsCell kind.Error) refl refl refl refl refl refl
message_cell kind.LockRequest = each_state (IsCell kind.LockRequest) refl refl refl refl refl refl
message_cell kind.ChangeAttributes = each_state (IsCell kind.ChangeAttributes) refl refl refl refl refl refl
message_cell kind.Destroy = each_state (IsCell kind.Destroy) refl refl refl refl refl refl

-- what the table says in a row and a column of these numbers
pub message_found : (kind : MessageKind) (state : PageState) (row column : ℕ) (act : Act) → row ≡ kind_number kind → column ≡ state_number state
    → act ≡ cell MESSAGE_ROWS.rows row column → act ≡ act_at kind state
message_found kind state row column act at across is =
    is ∙ ap (λ r. cell MESSAGE_ROWS.rows r column) at ∙ ap (λ c. cell MESSAGE_ROWS.rows (kind_number kind) c) across ∙ message_cell kind state
