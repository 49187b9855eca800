-- A command that is built is one of those that a kernel knows.
use Rattle.vm_kernel.proofs.Common.{Command, Event, Header, HostId, Ids, Inherit, List, ObjectId, Parts, Prot, Starts, TaskId, acts_on, ap, changes_entries}
use Rattle.vm_kernel.proofs.Common.{false, host_id, kernel_runs, refl, subst, true, ℕ, ◌==◌, ◌∙◌, ◌≡◌, ◌≢◌}
use Rattle.vm_model.specs.declared.command.Command.TheVariants as command
use Rattle.vm_kernel.proofs.abroad.OwnHost.{host_same}

-- the command is none of those that are built
pub record IsUnknown (c : Command) : Type 0 where
  pub task : (task : TaskId) (host : HostId) → c ≢ command.Task task host
  pub fork : (task child : TaskId) → c ≢ command.Fork task child
  pub exit : (task : TaskId) → c ≢ command.Exit task
  pub map : (task : TaskId) (address bytes : ℕ) (object : ObjectId) (offset : ℕ) → c ≢ command.Map task address bytes object offset
  pub allocate : (task : TaskId) (address bytes : ℕ) → c ≢ command.Allocate task address bytes
  pub deallocate : (task : TaskId) (address bytes : ℕ) → c ≢ command.Deallocate task address bytes
  pub protect : (task : TaskId) (address bytes : ℕ) (prot : Prot) → c ≢ command.Protect task address bytes prot
  pub inherit : (task : TaskId) (address bytes : ℕ) (inherit : Inherit) → c ≢ command.Inherit task address bytes inherit
  pub load : (task : TaskId) (address size : ℕ) → c ≢ command.Load task address size
  pub store : (task : TaskId) (address size value : ℕ) → c ≢ command.Store task address size value
  pub copy : (task : TaskId) (address bytes : ℕ) (target : TaskId) (to : ℕ) → c ≢ command.Copy task address bytes target to
  pub pageout : (host : HostId) (count : ℕ) → c ≢ command.Pageout host count
  pub wire : (host : HostId) (count : ℕ) → c ≢ command.Wire host count
  pub unwire : (host : HostId) (count : ℕ) → c ≢ command.Unwire host count

pub none_unknown : (c : Command) → kernel_runs c ≡ true → IsUnknown c → ⊥
none_unknown (command.Task task host) built unknown = unknown.task task host refl
none_unknown (command.Fork task child) built unknown = unknown.fork task child refl
none_unknown (command.Exit task) built unknown = unknown.exit task refl
none_unknown (command.Map task address bytes object offset) built unknown = unknown.map task address bytes object offset refl
none_unknown (command.Allocate task address bytes) built unknown = unknown.allocate task address bytes refl
none_unknown (command.Deallocate task address bytes) built unknown = unknown.deallocate task address bytes refl
none_unknown (command.Protect task address bytes prot) built unknown = unknown.protect task address bytes prot refl
none_unknown (command.Inherit task address bytes inherit) built unknown = unknown.inherit task address bytes inherit refl
none_unknown (command.Load task address size) built unknown = unknown.load task address size refl
none_unknown (command.Store task address size value) built unknown = unknown.store task address size value refl
none_unknown (command.Copy task address bytes target to) built unknown = unknown.copy task address bytes target to refl
none_unknown (command.Pageout host count) built unknown = unknown.pageout host count refl
none_unknown (command.Wire host count) built unknown = unknown.wire host count refl
none_unknown (command.Unwire host count) built unknown = unknown.unwire host count refl
none_unknown other built unknown = let bad : false ≡ true = built in cc

pub none_else : (c : Command) → changes_entries c ≡ true → ((task : TaskId) (address bytes : ℕ) → c ≢ command.Allocate task address bytes)
    → ((task : TaskId) (address bytes : ℕ) → c ≢ command.Deallocate task address bytes)
    → ((task : TaskId) (address bytes : ℕ) (prot : Prot) → c ≢ command.Protect task address bytes prot)
    → ((task : TaskId) (address bytes : ℕ) (inherit : Inherit) → c ≢ command.Inherit task address bytes inherit) → ⊥
none_else (command.Allocate task address bytes) changes allocate deallocate protect inherit = allocate task address bytes refl
none_else (command.Deallocate task address bytes) changes allocate deallocate protect inherit = deallocate task address bytes refl
none_else (command.Protect task address bytes prot) changes allocate deallocate protect inherit = protect task address bytes prot refl
none_else (command.Inherit task address bytes kind) changes allocate deallocate protect inherit = inherit task address bytes kind refl
none_else other changes allocate deallocate protect inherit = let bad : false ≡ true = changes in cc

pub task_of : (header : Header) (h : ℕ) (doing : Command) (past : List Event) (k : Parts) (ids : Ids) (events : List Event) (task : TaskId) (host : HostId)
    → Starts header h doing past k ids events → doing ≡ command.Task task host → doing ≡ command.Task task (host_id h)
task_of header h doing past k ids events task host s is =
    let acts : (host.0 == h) ≡ true = subst (λ (z : Command). acts_on h z past ≡ true) is s.acts in
    is ∙ ap (λ z. command.Task task z) (host_same host h acts)

pub pageout_of : (header : Header) (h : ℕ) (doing : Command) (past : List Event) (k : Parts) (ids : Ids) (events : List Event) (host : HostId) (count : ℕ)
    → Starts header h doing past k ids events → doing ≡ command.Pageout host count → doing ≡ command.Pageout (host_id h) count
pageout_of header h doing past k ids events host count s is =
    let acts : (host.0 == h) ≡ true = subst (λ (z : Command). acts_on h z past ≡ true) is s.acts in
    is ∙ ap (λ z. command.Pageout z count) (host_same host h acts)
