-- The table of messages.
use Rattle.std.specs.Prelude.{ℕ, List, [], slice_index_or}
use Rattle.vm_tables.specs.declared.acts.Act.{Act}
use Rattle.vm_tables.specs.declared.acts.Act.TheVariants as act
use Rattle.vm_tables.specs.declared.acts.MessageKind.{MessageKind}
use Rattle.vm_tables.specs.declared.acts.MessageKind.TheVariants as kind
use Rattle.vm_tables.specs.declared.acts.PageState.{PageState}
use Rattle.vm_tables.specs.declared.acts.PageState.TheVariants as state

-- what a table says in the row of a kind of message, at a state of the page
abbrev pub cell : List (List Act) → ℕ → ℕ → Act
cell rows kind state = slice_index_or (slice_index_or rows kind []) state act.Discard

-- the rows of the table, in their order
abbrev pub kind_number : MessageKind → ℕ
kind_number kind.Ready = 0
kind_number kind.SupplyUnlocked = 1
kind_number kind.SupplyWriteLocked = 2
kind_number kind.SupplyReadLocked = 3
kind_number kind.Unavailable = 4
kind_number kind.Error = 5
kind_number kind.LockRequest = 6
kind_number kind.ChangeAttributes = 7
kind_number kind.Destroy = 8

-- its columns, in their order
abbrev pub state_number : PageState → ℕ
state_number state.Dead = 0
state_number state.Absent = 1
state_number state.Asked = 2
state_number state.Unlocked = 3
state_number state.WriteLocked = 4
state_number state.ReadLocked = 5

-- a page that is here may be locked
abbrev pub lock_act_at : PageState → Act
lock_act_at state.Dead = act.Discard
lock_act_at state.Absent = act.Nothing
lock_act_at state.Asked = act.Nothing
lock_act_at state.Unlocked = act.LockPage
lock_act_at state.WriteLocked = act.LockPage
lock_act_at state.ReadLocked = act.LockPage

-- an answer counts where its page is asked
abbrev pub if_asked : Act → PageState → Act
if_asked counts state.Asked = counts
if_asked counts other = act.Discard

-- what is said to a control that isn't live is discarded
abbrev pub if_live : Act → PageState → Act
if_live counts state.Dead = act.Discard
if_live counts other = counts

-- what a message comes to, at each state of the page that it names
abbrev pub act_at : MessageKind → PageState → Act
act_at kind.Ready state = if_live act.MakeReady state
act_at kind.SupplyUnlocked state = if_asked act.PutUnlocked state
act_at kind.SupplyWriteLocked state = if_asked act.PutLocked state
act_at kind.SupplyReadLocked state = if_asked act.PutLocked state
act_at kind.Unavailable state = if_asked act.NoteAbsent state
act_at kind.Error state = if_asked act.Fail state
act_at kind.LockRequest state = lock_act_at state
act_at kind.ChangeAttributes state = if_live act.SetAttributes state
act_at kind.Destroy state = if_live act.EndObject state
