-- Of which events the definitions say nothing. An event that is new in a kind is named once more here, and then each definition that speaks of its kind has to
-- say below whether it speaks of the event.
use Rattle.std.proofs.Common.{◌≡◌, ◌≢◌, ◌==◌, ◌&&◌, ℕ, Bool, true, false, List, refl, sym, ◌∙◌, eq-eqb}
use Rattle.std.proofs.lemmas.Bool.{cond-true}
use Rattle.vm_base.specs.declared.code.Code.{Code}
use Rattle.vm_base.specs.declared.ids.HostId.{HostId}
use Rattle.vm_base.specs.declared.ids.Inherit.{Inherit}
use Rattle.vm_base.specs.declared.ids.ObjectId.{ObjectId}
use Rattle.vm_base.specs.declared.ids.PageNo.{PageNo}
use Rattle.vm_base.specs.declared.ids.Prot.{Prot}
use Rattle.vm_base.specs.declared.ids.RegionId.{RegionId}
use Rattle.vm_base.specs.declared.ids.TaskId.{TaskId}
use Rattle.vm_model.specs.declared.event.Device.{Device}
use Rattle.vm_model.specs.declared.event.Event.{Event}
use Rattle.vm_model.specs.declared.event.Way.{Way}
use Rattle.vm_model.specs.declared.event.Event.TheVariants as event
use Rattle.vm_model.specs.declared.message.Channel.{Channel}
use Rattle.vm_model.specs.declared.message.Channel.TheVariants.{Up}
use Rattle.vm_model.specs.declared.message.Message.{Message}
use Rattle.vm_model.specs.declared.message.Message.TheVariants as message
use Rattle.vm_model.specs.declared.script.Header.{Header}
use Rattle.vm_model.specs.Channels.{DownFirst, TakesFirst}
use Rattle.vm_model.specs.Founded.{IsFounded}
use Rattle.vm_model.specs.Kinds.{Accesses, Backings, Beginnings, Entries, Lines, Merges, Pages, Sendings, Takings, Tasks, about}
use Rattle.vm_model.specs.Local.{Drops, Elsewhere, Local, Place, Raises, Zeroes, effect}
use Rattle.vm_model.specs.Summary.{is_stored}

-- what holds of the events of a kind holds of whatever is about such things
pub of_lines {ℓ} : (P : Event → Type ℓ) → ((line : ℕ) → P (event.Line line)) → ((code : Code) → P (event.Refused code)) → (e : Event) → about e ≡ Lines → P e
of_lines P line refused (event.Line number) is = line number
of_lines P line refused (event.Refused code) is = refused code
of_lines P line refused other is = absurd (cc)

pub of_tasks {ℓ} : (P : Event → Type ℓ) → ((task : TaskId) → (host : HostId) → P (event.TaskMade task host)) → ((task : TaskId) → P (event.TaskEnded task))
    → (e : Event) → about e ≡ Tasks → P e
of_tasks P made ended (event.TaskMade task host) is = made task host
of_tasks P made ended (event.TaskEnded task) is = ended task
of_tasks P made ended other is = absurd (cc)

pub of_entries {ℓ} : (P : Event → Type ℓ)
    → ((task : TaskId) → (address bytes : ℕ) → (region : RegionId) → (offset : ℕ) → (prot : Prot) → (inherit : Inherit)
    → P (event.Entered task address bytes region offset prot inherit))
    → ((task : TaskId) → (address bytes : ℕ) → P (event.Removed task address bytes))
    → ((task : TaskId) → (address bytes : ℕ) → (prot : Prot) → P (event.Protected task address bytes prot))
    → ((task : TaskId) → (address bytes : ℕ) → (inherit : Inherit) → P (event.Inherited task address bytes inherit))
    → (e : Event) → about e ≡ Entries → P e
of_entries P entered removed protected inherited (event.Entered task address bytes region offset prot inherit) is =
    entered task address bytes region offset prot inherit
of_entries P entered removed protected inherited (event.Removed task address bytes) is = removed task address bytes
of_entries P entered removed protected inherited (event.Protected task address bytes prot) is = protected task address bytes prot
of_entries P entered removed protected inherited (event.Inherited task address bytes inherit) is = inherited task address bytes inherit
of_entries P entered removed protected inherited other is = absurd (cc)

pub of_beginnings {ℓ} : (P : Event → Type ℓ) → ((task : TaskId) → (address size : ℕ) → P (event.BegunLoad task address size))
    → ((task : TaskId) → (address size value : ℕ) → P (event.BegunStore task address size value))
    → ((task : TaskId) → (address bytes to : ℕ) → P (event.BegunCopy task address bytes to))
    → (e : Event) → about e ≡ Beginnings → P e
of_beginnings P load store copy (event.BegunLoad task address size) is = load task address size
of_beginnings P load store copy (event.BegunStore task address size value) is = store task address size value
of_beginnings P load store copy (event.BegunCopy task address bytes to) is = copy task address bytes to
of_beginnings P load store copy other is = absurd (cc)

pub of_accesses {ℓ} : (P : Event → Type ℓ)
    → ((task : TaskId) → (object : ObjectId) → (page : PageNo) → (value : ℕ) → P (event.Loaded task object page value))
    → ((task : TaskId) → (object : ObjectId) → (page : PageNo) → (at size value : ℕ) → P (event.Stored task object page at size value))
    → ((task : TaskId) → (page : PageNo) → (object : ObjectId) → (object_page : PageNo) → (target : ObjectId)
    → P (event.CopiedPage task page object object_page target))
    → ((task : TaskId) → P (event.CopyEnded task))
    → ((task : TaskId) → (object : ObjectId) → (page : PageNo) → P (event.Failed task object page))
    → (e : Event) → about e ≡ Accesses → P e
of_accesses P loaded stored copied ended failed (event.Loaded task object page value) is = loaded task object page value
of_accesses P loaded stored copied ended failed (event.Stored task object page at size value) is = stored task object page at size value
of_accesses P loaded stored copied ended failed (event.CopiedPage task page object object_page target) is = copied task page object object_page target
of_accesses P loaded stored copied ended failed (event.CopyEnded task) is = ended task
of_accesses P loaded stored copied ended failed (event.Failed task object page) is = failed task object page
of_accesses P loaded stored copied ended failed other is = absurd (cc)

pub of_sendings {ℓ} : (P : Event → Type ℓ) → ((channel : Channel) → (m : Message) → P (event.Sent channel m)) → (e : Event) → about e ≡ Sendings → P e
of_sendings P sent (event.Sent channel m) is = sent channel m
of_sendings P sent other is = absurd (cc)

pub of_takings {ℓ} : (P : Event → Type ℓ) → ((channel : Channel) → (m : Message) → P (event.Taken channel m)) → (e : Event) → about e ≡ Takings → P e
of_takings P taken (event.Taken channel m) is = taken channel m
of_takings P taken other is = absurd (cc)

pub of_pages {ℓ} : (P : Event → Type ℓ) → ((host : HostId) → (object : ObjectId) → (page : PageNo) → P (event.Dropped host object page))
    → ((host : HostId) → (object : ObjectId) → (page : PageNo) → P (event.Zeroed host object page))
    → ((host : HostId) → (lower : ObjectId) → (lower_page : PageNo) → (upper : ObjectId) → (upper_page : PageNo)
    → P (event.Raised host lower lower_page upper upper_page))
    → (e : Event) → about e ≡ Pages → P e
of_pages P dropped zeroed raised (event.Dropped host object page) is = dropped host object page
of_pages P dropped zeroed raised (event.Zeroed host object page) is = zeroed host object page
of_pages P dropped zeroed raised (event.Raised host lower lower_page upper upper_page) is = raised host lower lower_page upper upper_page
of_pages P dropped zeroed raised other is = absurd (cc)

pub of_backings {ℓ} : (P : Event → Type ℓ)
    → ((who : Device) → (way : Way) → (object : ObjectId) → (page : PageNo) → P (event.DeviceFailed who way object page))
    → ((object : ObjectId) → (page : PageNo) → P (event.NoSlot object page))
    → (e : Event) → about e ≡ Backings → P e
of_backings P failed unslotted (event.DeviceFailed who way object page) is = failed who way object page
of_backings P failed unslotted (event.NoSlot object page) is = unslotted object page
of_backings P failed unslotted other is = absurd (cc)

-- the same of messages
pub of_messages {ℓ} : (P : Message → Type ℓ)
    → ((control size : ℕ) → P (message.Init control size))
    → ((control size : ℕ) → P (message.Create control size))
    → ((control : ℕ) → (page : PageNo) → (access : ℕ) → P (message.Request control page access))
    → ((control : ℕ) → (page : PageNo) → (access : ℕ) → P (message.Unlock control page access))
    → ((control : ℕ) → (page : PageNo) → (dirty keep : Bool) → (bytes : List ℕ) → P (message.Return control page dirty keep bytes))
    → ((control : ℕ) → (page : PageNo) → (count : ℕ) → P (message.Completed control page count))
    → ((control : ℕ) → P (message.Terminate control))
    → ((cache : Bool) → (strategy : ℕ) → P (message.Ready cache strategy))
    → ((page : PageNo) → (lock : ℕ) → (precious : Bool) → (bytes : List ℕ) → P (message.Supply page lock precious bytes))
    → ((page : PageNo) → P (message.Unavailable page))
    → ((page : PageNo) → (reason : ℕ) → P (message.Error page reason))
    → ((page : PageNo) → (count returns : ℕ) → (flush : Bool) → (lock : ℕ) → (reply : Bool) → P (message.Lock page count returns flush lock reply))
    → ((cache : Bool) → (strategy : ℕ) → (reply : Bool) → P (message.Attributes cache strategy reply))
    → ((reason : ℕ) → P (message.Destroy reason))
    → ((control : ℕ) → (cache : Bool) → (strategy : ℕ) → P (message.Changed control cache strategy))
    → (m : Message) → P m
of_messages P init create request unlock returned completed terminate ready supply unavailable failing locking attributes destroy changed
    (message.Init control size) =
    init control size
of_messages P init create request unlock returned completed terminate ready supply unavailable failing locking attributes destroy changed
    (message.Create control size) =
    create control size
of_messages P init create request unlock returned completed terminate ready supply unavailable failing locking attributes destroy changed
    (message.Request control page access) =
    request control page access
of_messages P init create request unlock returned completed terminate ready supply unavailable failing locking attributes destroy changed
    (message.Unlock control page access) =
    unlock control page access
of_messages P init create request unlock returned completed terminate ready supply unavailable failing locking attributes destroy changed
    (message.Return control page dirty keep bytes) =
    returned control page dirty keep bytes
of_messages P init create request unlock returned completed terminate ready supply unavailable failing locking attributes destroy changed
    (message.Completed control page count) =
    completed control page count
of_messages P init create request unlock returned completed terminate ready supply unavailable failing locking attributes destroy changed
    (message.Terminate control) =
    terminate control
of_messages P init create request unlock returned completed terminate ready supply unavailable failing locking attributes destroy changed
    (message.Ready cache strategy) =
    ready cache strategy
of_messages P init create request unlock returned completed terminate ready supply unavailable failing locking attributes destroy changed
    (message.Supply page lock precious bytes) =
    supply page lock precious bytes
of_messages P init create request unlock returned completed terminate ready supply unavailable failing locking attributes destroy changed
    (message.Unavailable page) =
    unavailable page
of_messages P init create request unlock returned completed terminate ready supply unavailable failing locking attributes destroy changed
    (message.Error page reason) =
    failing page reason
of_messages P init create request unlock returned completed terminate ready supply unavailable failing locking attributes destroy changed
    (message.Lock page count returns flush lock reply) =
    locking page count returns flush lock reply
of_messages P init create request unlock returned completed terminate ready supply unavailable failing locking attributes destroy changed
    (message.Attributes cache strategy reply) =
    attributes cache strategy reply
of_messages P init create request unlock returned completed terminate ready supply unavailable failing locking attributes destroy changed
    (message.Destroy reason) =
    destroy reason
of_messages P init create request unlock returned completed terminate ready supply unavailable failing locking attributes destroy changed
    (message.Changed control cache strategy) =
    changed control cache strategy

-- tests of one event, or message
abbrev pub is_opening : Message → Bool
is_opening (message.Init control size) = true
is_opening (message.Create control size) = true
is_opening other = false

abbrev pub is_request : Message → Bool
is_request (message.Request control page access) = true
is_request other = false

abbrev pub is_unlock : Message → Bool
is_unlock (message.Unlock control page access) = true
is_unlock other = false

abbrev pub is_terminate : Message → Bool
is_terminate (message.Terminate control) = true
is_terminate other = false

abbrev pub is_task_made : Event → Bool
is_task_made (event.TaskMade task host) = true
is_task_made other = false

abbrev pub is_begun_copy : Event → Bool
is_begun_copy (event.BegunCopy task address bytes to) = true
is_begun_copy other = false

abbrev pub is_copied_page : Event → Bool
is_copied_page (event.CopiedPage task page object object_page target) = true
is_copied_page other = false

abbrev pub is_raised : Event → Bool
is_raised (event.Raised host lower lower_page upper upper_page) = true
is_raised other = false

-- channels up are about takings alone
pub takes_first_elsewhere : (e : Event) → (about e ≡ Takings → ⊥) → (past : List Event) → TakesFirst e past ≡ Unit {0}
takes_first_elsewhere (event.Taken channel m) apart past = absurd (apart refl)
takes_first_elsewhere other apart past = refl

-- channels down are about sendings and takings
pub down_first_elsewhere : (e : Event) → (about e ≡ Sendings → ⊥) → (about e ≡ Takings → ⊥) → (past : List Event) → DownFirst e past ≡ Unit {0}
down_first_elsewhere (event.Sent channel m) unsent untaken past = absurd (unsent refl)
down_first_elsewhere (event.Taken channel m) unsent untaken past = absurd (untaken refl)
down_first_elsewhere other unsent untaken past = refl

-- of what is sent up, controls that begin
pub down_first_of_messages : (host : HostId) (object : ObjectId) (past : List Event) → (m : Message) → is_opening m ≡ false
    → DownFirst (event.Sent (Up host object) m) past ≡ Unit {0}
down_first_of_messages host object past =
    of_messages (λ m. is_opening m ≡ false → DownFirst (event.Sent (Up host object) m) past ≡ Unit {0})
    (λ control size apart. absurd (cc))
    (λ control size apart. absurd (cc))
    (λ control page access apart. refl)
    (λ control page access apart. refl)
    (λ control page dirty keep bytes apart. refl)
    (λ control page count apart. refl)
    (λ control apart. refl)
    (λ cache strategy apart. refl)
    (λ page lock precious bytes apart. refl)
    (λ page apart. refl)
    (λ page reason apart. refl)
    (λ page count returns flush lock reply apart. refl)
    (λ cache strategy reply apart. refl)
    (λ reason apart. refl)
    (λ control cache strategy apart. refl)

-- what is taken for granted is about sendings, pages and accesses; of accesses about stores and copied pages, and of pages about those that are copied
pub is_founded_elsewhere : (header : Header) (e : Event) → (about e ≡ Sendings → ⊥) → (about e ≡ Pages → ⊥) → (about e ≡ Accesses → ⊥) → (past : List Event)
    → IsFounded header e past ≡ Unit {0}
is_founded_elsewhere header (event.Sent channel m) unsent no_page no_access past = absurd (unsent refl)
is_founded_elsewhere header (event.Raised host lower lower_page upper upper_page) unsent no_page no_access past = absurd (no_page refl)
is_founded_elsewhere header (event.CopiedPage task page object object_page target) unsent no_page no_access past = absurd (no_access refl)
is_founded_elsewhere header (event.Stored task object page at bytes value) unsent no_page no_access past = absurd (no_access refl)
is_founded_elsewhere header other unsent no_page no_access past = refl

pub is_founded_of_accesses : (header : Header) (e : Event) → about e ≡ Accesses → is_stored e ≡ false → is_copied_page e ≡ false → (past : List Event)
    → IsFounded header e past ≡ Unit {0}
is_founded_of_accesses header =
    of_accesses (λ e. is_stored e ≡ false → is_copied_page e ≡ false → (past : List Event) → IsFounded header e past ≡ Unit {0})
    (λ task object page value unstored uncopied past. refl)
    (λ task object page at bytes value unstored uncopied past. absurd (cc))
    (λ task page object object_page target unstored uncopied past. absurd (cc))
    (λ task unstored uncopied past. refl)
    (λ task object page unstored uncopied past. refl)

pub is_founded_of_pages : (header : Header) (e : Event) → about e ≡ Pages → is_raised e ≡ false → (past : List Event) → IsFounded header e past ≡ Unit {0}
is_founded_of_pages header =
    of_pages (λ e. is_raised e ≡ false → (past : List Event) → IsFounded header e past ≡ Unit {0})
    (λ host object page unraised past. refl)
    (λ host object page unraised past. refl)
    (λ host lower lower_page upper upper_page unraised past. absurd (cc))

-- of what is sent up, requests and ends
pub is_founded_of_messages : (header : Header) (host : HostId) (object : ObjectId) (past : List Event) → (m : Message) → is_request m ≡ false
    → is_terminate m ≡ false
    → IsFounded header (event.Sent (Up host object) m) past ≡ Unit {0}
is_founded_of_messages header host object past =
    of_messages (λ m. is_request m ≡ false → is_terminate m ≡ false → IsFounded header (event.Sent (Up host object) m) past ≡ Unit {0})
    (λ control size apart other. refl)
    (λ control size apart other. refl)
    (λ control page access apart other. absurd (cc))
    (λ control page access apart other. refl)
    (λ control page dirty keep bytes apart other. refl)
    (λ control page count apart other. refl)
    (λ control apart other. absurd (cc))
    (λ cache strategy apart other. refl)
    (λ page lock precious bytes apart other. refl)
    (λ page apart other. refl)
    (λ page reason apart other. refl)
    (λ page count returns flush lock reply apart other. refl)
    (λ cache strategy reply apart other. refl)
    (λ reason apart other. refl)
    (λ control cache strategy apart other. refl)

-- what a host has of a page changes by messages, pages, merges and accesses; of accesses by stores and copied pages
pub effect_elsewhere : (header : Header) (h : ℕ) (place : Place) (others : Place → Local) (e : Event) → (about e ≡ Sendings → ⊥) → (about e ≡ Takings → ⊥)
    → (about e ≡ Pages → ⊥) → (about e ≡ Accesses → ⊥) → (about e ≡ Merges → ⊥) → (past : List Event) → effect header h place others e past ≡ Elsewhere
effect_elsewhere header h place others (event.Sent channel m) unsent untaken no_page no_access no_merge past = absurd (unsent refl)
effect_elsewhere header h place others (event.Taken channel m) unsent untaken no_page no_access no_merge past = absurd (untaken refl)
effect_elsewhere header h place others (event.Dropped host object page) unsent untaken no_page no_access no_merge past = absurd (no_page refl)
effect_elsewhere header h place others (event.Zeroed host object page) unsent untaken no_page no_access no_merge past = absurd (no_page refl)
effect_elsewhere header h place others (event.Raised host lower lower_page upper upper_page) unsent untaken no_page no_access no_merge past =
    absurd (no_page refl)
effect_elsewhere header h place others (event.CopiedPage task page object object_page target) unsent untaken no_page no_access no_merge past =
    absurd (no_access refl)
effect_elsewhere header h place others (event.Stored task object page at size value) unsent untaken no_page no_access no_merge past = absurd (no_access refl)
effect_elsewhere header h place others (event.Merged upper lower) unsent untaken no_page no_access no_merge past = absurd (no_merge refl)
effect_elsewhere header h place others other unsent untaken no_page no_access no_merge past = refl

pub effect_of_accesses : (header : Header) (h : ℕ) (place : Place) (others : Place → Local) (past : List Event) (e : Event) → about e ≡ Accesses
    → is_stored e ≡ false
    → is_copied_page e ≡ false → effect header h place others e past ≡ Elsewhere
effect_of_accesses header h place others past =
    of_accesses (λ e. is_stored e ≡ false → is_copied_page e ≡ false → effect header h place others e past ≡ Elsewhere)
    (λ task object page value unstored uncopied. refl)
    (λ task object page at bytes value unstored uncopied. absurd (cc))
    (λ task page object object_page target unstored uncopied. absurd (cc))
    (λ task unstored uncopied. refl)
    (λ task object page unstored uncopied. refl)

-- each event about pages is to some place
record IsSomewhere (header : Header) (others : Place → Local) (past : List Event) (e : Event) : Type 0 where
  host : ℕ
  place : Place
  there : effect header host place others e past ≢ Elsewhere

same_spot : (h o p : ℕ) → (h == h && (o == o && p == p)) ≡ true
same_spot h o p = rw (eq-eqb h h refl) (rw (eq-eqb o o refl) (eq-eqb p p refl))

effect_of_pages : (header : Header) (others : Place → Local) (past : List Event) (e : Event) → about e ≡ Pages → IsSomewhere header others past e
effect_of_pages header others past =
    of_pages (IsSomewhere header others past)
    (λ host object page. record {
      host = host.0;
      place = record { object = object.0; page = page.0 };
      there = λ is. absurd (let bad : Drops ≡ Elsewhere = sym (cond-true _ Drops Elsewhere (same_spot host.0 object.0 page.0)) ∙ is in cc);
    })
    (λ host object page. record {
      host = host.0;
      place = record { object = object.0; page = page.0 };
      there = λ is. absurd (let bad : Zeroes ≡ Elsewhere = sym (cond-true _ Zeroes Elsewhere (same_spot host.0 object.0 page.0)) ∙ is in cc);
    })
    (λ host lower lower_page upper upper_page. record {
      host = host.0;
      place = record { object = upper.0; page = upper_page.0 };
      there = λ is. absurd (let bad : Raises _ ≡ Elsewhere = sym (cond-true _ (Raises _) Elsewhere (same_spot host.0 upper.0 upper_page.0)) ∙ is in cc);
    })
