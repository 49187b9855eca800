-- An accepted command has a head.
use Rattle.std.proofs.Common.{ℕ, ◌≡◌, ◌/◌, ◌==◌, ◌||◌, ◌&&◌, Bool, true, false, not, List, [], ◌∷◌, Option, Some, None, refl, ap, sym, ◌∙◌}
use Rattle.std.specs.Prelude.{IsSome, is_none, is_some, nat_lt}
use Rattle.vm_base.specs.declared.code.Code.{Code}
use Rattle.vm_base.specs.declared.code.Code.TheVariants as code
use Rattle.vm_base.specs.declared.entry.Entry.{Entry}
use Rattle.vm_base.specs.declared.ids.HostId.{HostId}
use Rattle.vm_base.specs.declared.ids.ObjectId.{ObjectId}
use Rattle.vm_base.specs.declared.ids.TaskId.{TaskId}
use Rattle.vm_base.specs.Entries.{entry_at, is_range}
use Rattle.vm_base.specs.Limits.{most_pages}
use Rattle.vm_model.specs.declared.command.Command.{Command}
use Rattle.vm_model.specs.declared.command.Command.TheVariants as command
use Rattle.vm_model.specs.declared.event.Event.{Event}
use Rattle.vm_model.specs.declared.message.Channel.{Channel}
use Rattle.vm_model.specs.declared.message.Message.{Message}
use Rattle.vm_model.specs.declared.script.Header.{Header}
use Rattle.vm_model.specs.Channels.{queue}
use Rattle.vm_model.specs.Controls.{live_control}
use Rattle.vm_model.specs.Regions.{next_object, next_region}
use Rattle.vm_model.specs.Server.{first as oldest}
use Rattle.vm_model.specs.Tasks.{entries_of, host_of}
use Rattle.vm_model.specs.Waiting.{waiting}
use Rattle.vm_legal.specs.Follows.{copy_head, fork_head, head, map_head, say_head, take_head}
use Rattle.vm_legal.specs.Licences.{is_paged}
use Rattle.vm_legal.specs.Outside.{is_wild}
use Rattle.vm_legal.specs.Refusal.{code_where, copy_refusal, is_empty, is_uncopied, refusal, same_host}
use Rattle.vm_legal.specs.Undelivered.{is_made}

-- a test that a command passed, and the later ones
pub passed : (test : Bool) (why : Code) (later : Option Code) → code_where test why later ≡ None → (test ≡ false) × (later ≡ None)
passed true why later is = absurd (let bad : Some why ≡ None = is in cc)
passed false why later is = (refl, is)

neither : (a b : Bool) → (a || b) ≡ false → (a ≡ false) × (b ≡ false)
neither true b is = absurd (let bad : true ≡ false = is in cc)
neither false b is = (refl, is)

-- heads

forked : (header : Header) (next object : ℕ) (child : TaskId) (x : Option ℕ) (rows : List Entry) → is_none x ≡ false
    → IsSome (fork_head header next object child x rows)
forked header next object child None rows is = absurd (let bad : true ≡ false = is in cc)
forked header next object child (Some host) rows is = refl

mapped : (header : Header) (task : TaskId) (address bytes : ℕ) (object : ObjectId) (offset : ℕ) (past : List Event) (x : Option ℕ) → is_none x ≡ false
    → IsSome (map_head header task address bytes object offset past x)
mapped header task address bytes object offset past None is = absurd (let bad : true ≡ false = is in cc)
mapped header task address bytes object offset past (Some host) is = refl

said : (host : HostId) (object : ObjectId) (m : Message) (x : Option ℕ) → is_none x ≡ false → IsSome (say_head host object m x)
said host object m None is = absurd (let bad : true ≡ false = is in cc)
said host object m (Some control) is = refl

taken : (channel : Channel) (messages : List Message) → is_empty messages ≡ false → IsSome (take_head channel (oldest messages))
taken channel [] is = absurd (let bad : true ≡ false = is in cc)
taken channel (m ∷ more) is = refl

copied : (header : Header) (next object : ℕ) (task : TaskId) (address bytes : ℕ) (target : TaskId) (to : ℕ) (past : List Event) (x : Option Entry)
    → copy_refusal header address bytes target.0 to past x ≡ None
    → IsSome (copy_head header next object task address bytes target to x)
copied header next object task address bytes target to past None is = absurd (let bad : Some code.InvalidAddress ≡ None = is in cc)
copied header next object task address bytes target to past (Some row) is = refl

-- the last two tests of a copy
record IsCopied (header : Header) (past : List Event) (task : TaskId) (address bytes : ℕ) (target : TaskId) (to : ℕ) (x : Option Entry) : Type 0 where
  copied : is_uncopied header (task.0 == target.0) x ≡ false
  found : copy_refusal header address bytes target.0 to past x ≡ None

copy_passed : (header : Header) (past : List Event) (task : TaskId) (address bytes : ℕ) (target : TaskId) (to : ℕ)
    → refusal header past (command.Copy task address bytes target to) ≡ None
    → IsCopied header past task address bytes target to (entry_at address (entries_of header.size task.0 past))
copy_passed header past task address bytes target to accepted =
    let ranges = not (is_range header.size address bytes && is_range header.size to bytes) in
    let large = nat_lt most_pages (bytes / header.size) in
    let apart = not (same_host (host_of task.0 past) (host_of target.0 past)) in
    let uncopied = is_uncopied header (task.0 == target.0) (entry_at address (entries_of header.size task.0 past)) in
    let one = passed (is_none (host_of task.0 past) || is_none (host_of target.0 past)) code.NoSuchName _ accepted in
    let two = passed (is_some (waiting task.0 past) || is_some (waiting target.0 past)) code.Blocked _ one.1 in
    let three = passed (ranges || (large || (apart || uncopied))) code.InvalidArgument _ two.1 in
    record {
      copied = (neither apart uncopied (neither large (apart || uncopied) (neither ranges (large || (apart || uncopied)) three.0).1).1).1;
      found = three.1;
    }

pub has_head : (header : Header) (past : List Event) (doing : Command) → refusal header past doing ≡ None → IsSome (head header past doing)
has_head header past (command.Task task host) accepted = refl
has_head header past (command.Allocate task address bytes) accepted = refl
has_head header past (command.Load task address size) accepted = refl
has_head header past (command.Store task address size value) accepted = refl
has_head header past (command.Fork task child) accepted =
    forked header (next_region header past) (next_object header past) child (host_of task.0 past) (entries_of header.size task.0 past)
    (passed (is_none (host_of task.0 past)) code.NoSuchName _ accepted).0
has_head header past (command.Exit task) accepted = refl
has_head header past (command.Deallocate task address bytes) accepted = refl
has_head header past (command.Protect task address bytes prot) accepted = refl
has_head header past (command.Inherit task address bytes inherit) accepted = refl
has_head header past (command.Take channel) accepted =
    taken channel (queue channel past) (passed (is_empty (queue channel past)) code.EmptyPort _
    (passed (not (is_made channel past)) code.NoSuchName _ accepted).1).0
has_head header past (command.Settle count) accepted = refl
has_head header past (command.Wire host count) accepted = refl
has_head header past (command.Unwire host count) accepted = refl
has_head header past (command.Pageout host count) accepted = refl
has_head header past (command.FailFiles count) accepted = refl
has_head header past (command.FailPaging count) accepted = refl
has_head header past (command.Say host object m) accepted =
    said host object m (live_control host.0 object.0 past) (passed (is_none (live_control host.0 object.0 past)) code.NoSuchName _ accepted).0
has_head header past (command.Map task address bytes object offset) accepted =
    mapped header task address bytes object offset past (host_of task.0 past) (passed (is_none (host_of task.0 past)) code.NoSuchName _ accepted).0
has_head header past (command.Copy task address bytes target to) accepted =
    copied header (next_region header past) (next_object header past) task address bytes target to past (entry_at address (entries_of header.size task.0 past))
    (copy_passed header past task address bytes target to accepted).found
has_head header past (command.Clean object page count flush) accepted = refl
has_head header past (command.Cache object cache) accepted = refl

-- an accepted copy isn't of a wild object's region, and one of a region whose copies aren't delayed is to the task itself

own : (wild paged same : Bool) → (wild || (not paged && not same)) ≡ false → (wild ≡ false) × (paged ≡ false → same ≡ true)
own true paged same is = absurd (let bad : true ≡ false = is in cc)
own false true same is = (refl, λ below. absurd (let bad : true ≡ false = below in cc))
own false false true is = (refl, λ below. refl)
own false false false is = absurd (let bad : true ≡ false = is in cc)

pub to_itself : (header : Header) (past : List Event) (task : TaskId) (address bytes : ℕ) (target : TaskId) (to : ℕ) (row : Entry)
    → refusal header past (command.Copy task address bytes target to) ≡ None
    → entry_at address (entries_of header.size task.0 past) ≡ Some row → (is_wild header row.region.0 ≡ false)
    × (is_paged header row.region.0 ≡ false → (task.0 == target.0) ≡ true)
to_itself header past task address bytes target to row accepted there =
    own (is_wild header row.region.0) (is_paged header row.region.0) (task.0 == target.0)
    (ap (is_uncopied header (task.0 == target.0)) (sym there) ∙ (copy_passed header past task address bytes target to accepted).copied)
