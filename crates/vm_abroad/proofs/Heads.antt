-- Behind each region that the commands make stands its entry.
use Rattle.std.proofs.Common.{length, ◌≡◌, ℕ, ◌+◌, ◌-◌, ◌/◌, ◌==◌, ◌&&◌, Bool, true, false, not, List, [], ◌∷◌, ◌++◌, reverse, Option, Some, None, MatchOption}
use Rattle.std.proofs.Common.{append_assoc, refl, ap, sym, ◌∙◌, subst}
use mathlib.Core.List.{reverse_aux}
use Rattle.std.specs.Prelude.{if◌then◌else◌, nat_lt}
use Rattle.vm_base.specs.declared.code.Code.{Code}
use Rattle.vm_base.specs.declared.entry.Entry.{Entry}
use Rattle.vm_base.specs.declared.ids.HostId.{HostId}
use Rattle.vm_base.specs.declared.ids.Inherit.{Inherit}
use Rattle.vm_base.specs.declared.ids.Inherit.TheVariants.{Copy, Never, Share}
use Rattle.vm_base.specs.Entries.{entry_at, page_at}
use Rattle.vm_base.specs.declared.ids.ObjectId.{ObjectId}
use Rattle.vm_base.specs.declared.ids.RegionId.{RegionId}
use Rattle.vm_base.specs.declared.ids.TaskId.{TaskId}
use Rattle.vm_model.specs.declared.command.Command.{Command}
use Rattle.vm_model.specs.declared.command.Command.TheVariants as command
use Rattle.vm_model.specs.declared.command.Numbered.{Numbered}
use Rattle.vm_model.specs.declared.event.Event.{Event}
use Rattle.vm_model.specs.declared.event.Event.TheVariants as event
use Rattle.vm_model.specs.declared.message.Channel.{Channel}
use Rattle.vm_model.specs.declared.message.Channel.TheVariants.{Down}
use Rattle.vm_model.specs.declared.message.Message.{Message}
use Rattle.vm_model.specs.declared.script.Header.{Header}
use Rattle.vm_model.specs.Channels.{queue}
use Rattle.vm_model.specs.Controls.{last_control, live_control}
use Rattle.vm_model.specs.Moments.{EachEvent}
use Rattle.vm_model.specs.Regions.{next_object, next_region}
use Rattle.vm_model.specs.Server.{first as oldest}
use Rattle.vm_model.specs.Named.{named}
use Rattle.vm_model.specs.Tasks.{entries_of, host_of}
use Rattle.vm_base.specs.declared.ids.PageNo.{PageNo}
use Rattle.vm_legal.specs.Pagers.{Known, known_below}
use Rattle.vm_model.specs.declared.message.Message.TheVariants as message
use Rattle.vm_legal.specs.Follows.{Follows, FollowsSoFar, IsConsequence, IsGroup, IsRun, cache_head, clean_head, copied_late, copy_head, fork_head, head}
use Rattle.vm_legal.specs.Follows.{inherits, inherits_all, map_head, next_behind, object_behind, opening, say_head, take_head}
use Rattle.vm_legal.specs.Frames.{frames_wired}
use Rattle.vm_legal.specs.Homes.{EntersNext, enters, is_open, starts_copy}
use Rattle.vm_legal.specs.Outside.{Outside, is_file}
use Rattle.vm_legal.specs.Refusal.{refusal}
use Rattle.vm_legal.specs.Stretches.{EachIn, EachOf}
use Rattle.vm_abroad.specs.Whose.{IsShut}
use Rattle.vm_abroad.proofs.Sounds.{both_left}

-- each region has its entry, and none waits for one
record Paired (past : List Event) : Type 0 where
  each : EachEvent EntersNext past
  shut : IsShut past

-- the event makes no region
abbrev MakesNone : Event → Type 0
MakesNone e = (region : ℕ) (past : List Event) → is_open region (e ∷ past) ≡ false

next_shut : (e : Event) (past : List Event) → IsShut past → EntersNext e past
next_shut e past shut region opened = absurd (let bad : true ≡ false = sym opened ∙ shut region in cc)

paired : (events past : List Event) → EachOf MakesNone events → Paired past → Paired (events ++ past)
paired [] past none was = was
paired (e ∷ events) past none was =
    let later = paired events past none.1 was in record {
      each = (next_shut e (events ++ past) later.shut, later.each);
      shut = λ region. none.0 region (events ++ past);
    }

each_onto : (events more : List Event) → EachOf MakesNone events → EachOf MakesNone more → EachOf MakesNone (reverse_aux events more)
each_onto [] more one two = two
each_onto (e ∷ events) more one two = each_onto events (e ∷ more) one.1 (one.0, two)

consequence : (e : Event) (past : List Event) → IsConsequence e past → MakesNone e
consequence (event.RegionMade region object pages) past is = absurd is
consequence other past is = λ r front. refl

consequences : (events past : List Event) → EachIn IsConsequence events past → EachOf MakesNone events
consequences [] past each = tt
consequences (e ∷ events) past each = (consequence e (events ++ past) each.0, consequences events past each.1)

-- heads

plain : (events first past : List Event) → EachOf MakesNone events → Some events ≡ Some first → Paired past → Paired (reverse first ++ past)
plain events first past none is was =
    let same : events ≡ first = cc in
    subst (λ (z : List Event). Paired (reverse z ++ past)) same (paired (reverse events) past (each_onto events [] none tt) was)

no_head : (first past : List Event) → None ≡ Some first → Paired (reverse first ++ past)
no_head first past is = absurd (cc)

-- behind a region that is copied stands its entry too: none of the events makes a region
both_none : (events more : List Event) → EachOf MakesNone events → EachOf MakesNone more → EachOf MakesNone (events ++ more)
both_none [] more one two = two
both_none (e ∷ events) more one two = (one.0, both_none events more one.1 two)

late_none : (delayed : Bool) (next object : ℕ) (source : RegionId) (offset pages : ℕ) → MakesNone (copied_late delayed next object source offset pages)
late_none true next object source offset pages = λ region past. refl
late_none false next object source offset pages = λ region past. refl

inherits_none : (kind : Inherit) (header : Header) (child : TaskId) (next object : ℕ) (row : Entry)
    → EachOf MakesNone (inherits kind header child next object row)
inherits_none Share header child next object row = ((λ r past. refl), tt)
inherits_none Copy header child next object row = (
  late_none (nat_lt row.region.0 (named header)) next object row.region row.offset (row.bytes / header.size),
  ((λ r past. refl), tt),
)
inherits_none Never header child next object row = tt

all_none : (header : Header) (child : TaskId) (next object : ℕ) (rows : List Entry) → EachOf MakesNone (inherits_all header child next object rows)
all_none header child next object [] = tt
all_none header child next object (row ∷ rows) =
    let region = next_behind row.inherit next in
    let number = object_behind row.inherit header row.region object in
    both_none (inherits row.inherit header child next object row) (inherits_all header child region number rows)
    (inherits_none row.inherit header child next object row) (all_none header child region number rows)

forked : (header : Header) (next object : ℕ) (child : TaskId) (x : Option ℕ) (rows : List Entry) (first past : List Event)
    → fork_head header next object child x rows ≡ Some first → Paired past → Paired (reverse first ++ past)
forked header next object child None rows first past is was = no_head first past is
forked header next object child (Some host) rows first past is was =
    plain (event.TaskMade child (record { 0 = host }) ∷ inherits_all header child next object rows) first past
    ((λ r h. refl), all_none header child next object rows) is was

none_left : (b : Bool) → (b && false) ≡ false
none_left true = refl
none_left false = refl

-- a region behind the beginning of a slow copy waits for no entry
begun_and_made : (begun made : Event) (first past : List Event) → Some (begun ∷ made ∷ []) ≡ Some first → MakesNone begun
    → ((region : ℕ) → is_open region (made ∷ begun ∷ past) ≡ false) → Paired past → Paired (reverse first ++ past)
begun_and_made begun made first past is none shut was =
    let same : begun ∷ made ∷ [] ≡ first = cc in
    let front : Paired (begun ∷ past) = paired (begun ∷ []) past (none, tt) was in
    subst (λ (z : List Event). Paired (reverse z ++ past)) same (record { each = (next_shut made (begun ∷ past) front.shut, front.each); shut = shut })

copied : (header : Header) (next object : ℕ) (task : TaskId) (address bytes : ℕ) (target : TaskId) (to : ℕ) (x : Option Entry) (first past : List Event)
    → copy_head header next object task address bytes target to x ≡ Some first → Paired past
    → Paired (reverse first ++ past)
copied header next object task address bytes target to None first past is was = no_head first past is
copied header next object task address bytes target to (Some row) first past is was =
    by (nat_lt row.region.0 (named header) && not (is_file header row.region.0)) is
  where
    begun : Event
    begun = event.BegunCopy task address bytes to

    made : Event
    made = event.RegionMade (record { 0 = next }) (record { 0 = object }) (bytes / header.size)

    new : Event
    new = copied_late (is_file header row.region.0) next object row.region (page_at header.size address row) (bytes / header.size)

    entry : Event
    entry = event.Entered target to bytes (record { 0 = next }) 0 (record { read = true; write = true }) Copy

    by : (b : Bool) → Some (if b then begun ∷ made ∷ [] else new ∷ entry ∷ []) ≡ Some first → Paired (reverse first ++ past)
    by true is = begun_and_made begun made first past is (λ region front. refl) (λ region. none_left (region == next)) was
    by false is =
        let none = late_none (is_file header row.region.0) next object row.region (page_at header.size address row) (bytes / header.size) in
        plain (new ∷ entry ∷ []) first past (none, ((λ r h. refl), tt)) is was

taken : (channel : Channel) (x : Option Message) (first past : List Event) → take_head channel x ≡ Some first → Paired past → Paired (reverse first ++ past)
taken channel None first past is was = no_head first past is
taken channel (Some m) first past is was = plain (event.Taken channel m ∷ []) first past ((λ r h. refl), tt) is was

said : (host : HostId) (object : ObjectId) (m : Message) (x : Option ℕ) (first past : List Event) → say_head host object m x ≡ Some first → Paired past
    → Paired (reverse first ++ past)
said host object m None first past is was = no_head first past is
said host object m (Some control) first past is was = plain (event.Sent (Down host object control) m ∷ []) first past ((λ r h. refl), tt) is was

opened : (host : ℕ) (object : ObjectId) (next size : ℕ) (x : Option ℕ) → EachOf MakesNone (opening host object next size x)
opened host object next size None = ((λ r h. refl), tt)
opened host object next size (Some control) = tt

mapped : (header : Header) (task : TaskId) (address bytes : ℕ) (object : ObjectId) (offset : ℕ) (before : List Event) (x : Option ℕ) (first past : List Event)
    → map_head header task address bytes object offset before x ≡ Some first → Paired past
    → Paired (reverse first ++ past)
mapped header task address bytes object offset before None first past is was = no_head first past is
mapped header task address bytes object offset before (Some host) first past is was =
    plain
    (event.Entered task address bytes (record { 0 = object.0 }) offset (record { read = true; write = true }) Share
    ∷ opening host object (last_control host object.0 before + 1) header.size (live_control host object.0 before))
    first past ((λ r h. refl), opened host object (last_control host object.0 before + 1) header.size (live_control host object.0 before)) is was

cleaned : (object : ObjectId) (page : PageNo) (count : ℕ) (flush : Bool) (x : Option Known) (first past : List Event)
    → Some (clean_head object page count flush x) ≡ Some first → Paired past → Paired (reverse first ++ past)
cleaned object page count flush None first past is was = plain [] first past tt is was
cleaned object page count flush (Some known) first past is was =
    plain (event.Sent (Down (record { 0 = known.host }) object known.control) (message.Lock page count 2 flush 8 true) ∷ []) first past ((λ r h. refl), tt) is
    was

cached : (object : ObjectId) (cache : Bool) (x : Option Known) (first past : List Event) → Some (cache_head object cache x) ≡ Some first → Paired past
    → Paired (reverse first ++ past)
cached object cache None first past is was = plain [] first past tt is was
cached object cache (Some known) first past is was =
    plain (event.Sent (Down (record { 0 = known.host }) object known.control) (message.Attributes cache 2 true) ∷ []) first past ((λ r h. refl), tt) is was

made_and_entered : (made entered : Event) (first past : List Event) → Some (made ∷ entered ∷ []) ≡ Some first → MakesNone entered
    → ((region : ℕ) → is_open region (made ∷ past) ≡ true → enters region entered ≡ true)
    → Paired past → Paired (reverse first ++ past)
made_and_entered made entered first past is none next was =
    let same : made ∷ entered ∷ [] ≡ first = cc in
    subst (λ (z : List Event). Paired (reverse z ++ past)) same (record {
      each = (next, (next_shut made past was.shut, was.each));
      shut = λ region. none region (made ∷ past);
    })

head_paired : (header : Header) (before past : List Event) (doing : Command) (first : List Event) → head header before doing ≡ Some first → Paired past
    → Paired (reverse first ++ past)
head_paired header before past (command.Allocate task address bytes) first is was =
    let r = next_region header before in
    let made : Event = event.RegionMade (record { 0 = r }) (record { 0 = next_object header before }) (bytes / header.size) in
    let entered : Event = event.Entered task address bytes (record { 0 = r }) 0 (record { read = true; write = true }) Copy in
    made_and_entered made entered first past is (λ region past. refl) (λ region opened. both_left (region == r) (not (starts_copy past)) opened) was
head_paired header before past (command.Task task host) first is was = plain (event.TaskMade task host ∷ []) first past ((λ r h. refl), tt) is was
head_paired header before past (command.Load task address size) first is was =
    plain (event.BegunLoad task address size ∷ []) first past ((λ r h. refl), tt) is was
head_paired header before past (command.Store task address size value) first is was =
    plain (event.BegunStore task address size value ∷ []) first past ((λ r h. refl), tt) is was
head_paired header before past (command.Fork task child) first is was =
    forked header (next_region header before) (next_object header before) child (host_of task.0 before) (entries_of header.size task.0 before) first past is was
head_paired header before past (command.Copy task address bytes target to) first is was =
    copied header (next_region header before) (next_object header before) task address bytes target to
    (entry_at address (entries_of header.size task.0 before)) first past is was
head_paired header before past (command.Exit task) first is was = plain (event.TaskEnded task ∷ []) first past ((λ r h. refl), tt) is was
head_paired header before past (command.Deallocate task address bytes) first is was =
    plain (event.Removed task address bytes ∷ []) first past ((λ r h. refl), tt) is was
head_paired header before past (command.Protect task address bytes prot) first is was =
    plain (event.Protected task address bytes prot ∷ []) first past ((λ r h. refl), tt) is was
head_paired header before past (command.Inherit task address bytes inherit) first is was =
    plain (event.Inherited task address bytes inherit ∷ []) first past ((λ r h. refl), tt) is was
head_paired header before past (command.Take channel) first is was = taken channel (oldest (queue channel before)) first past is was
head_paired header before past (command.Settle count) first is was = plain [] first past tt is was
head_paired header before past (command.Wire host count) first is was =
    plain (event.Wired host (frames_wired host.0 before + count) ∷ []) first past ((λ r h. refl), tt) is was
head_paired header before past (command.Unwire host count) first is was =
    plain (event.Wired host (frames_wired host.0 before - count) ∷ []) first past ((λ r h. refl), tt) is was
head_paired header before past (command.Pageout host count) first is was = plain [] first past tt is was
head_paired header before past (command.FailFiles count) first is was = plain [] first past tt is was
head_paired header before past (command.FailPaging count) first is was = plain [] first past tt is was
head_paired header before past (command.Say host object m) first is was = said host object m (live_control host.0 object.0 before) first past is was
head_paired header before past (command.Map task address bytes object offset) first is was =
    mapped header task address bytes object offset before (host_of task.0 before) first past is was
head_paired header before past (command.Clean object page count flush) first is was =
    cleaned object page count flush (known_below (length header.frames.items) object.0 before) first past is was
head_paired header before past (command.Cache object cache) first is was =
    cached object cache (known_below (length header.frames.items) object.0 before) first past is was

-- a head and what follows from it
run_paired : (header : Header) (before past : List Event) (doing : Command) (first more : List Event) → head header before doing ≡ Some first
    → EachIn IsConsequence more (reverse first ++ past) → Paired past → Paired (more ++ (reverse first ++ past))
run_paired header before past doing first more is follows was =
    paired more (reverse first ++ past) (consequences more (reverse first ++ past) follows) (head_paired header before past doing first is was)

-- groups

group_paired : (header : Header) (outside : Outside) (past : List Event) (numbered : Numbered) (group : List Event) (refused : Option Code)
    (x : Option (List Event)) → head header past numbered.command ≡ x
    → MatchOption refused (MatchOption x ⊥ (λ events. IsRun header outside past numbered events group)) (λ code. group ≡ event.Refused code ∷ []) → Paired past
    → Paired (group ++ event.Line numbered.line ∷ past)
group_paired header outside past numbered group None None is made was = absurd made
group_paired header outside past numbered group None (Some events) is run was =
    let line : Paired (event.Line numbered.line ∷ past) = paired (event.Line numbered.line ∷ []) past ((λ r h. refl), tt) was in
    let whole = run_paired header past (event.Line numbered.line ∷ past) numbered.command events run.more is run.follows line in
    subst Paired (sym (append_assoc run.more (reverse events) (event.Line numbered.line ∷ past)) ∙ ap (λ z. z ++ event.Line numbered.line ∷ past) (sym run.is))
    whole
group_paired header outside past numbered group (Some code) x is made was =
    subst (λ (z : List Event). Paired (z ++ event.Line numbered.line ∷ past)) (sym made)
    (paired (event.Refused code ∷ event.Line numbered.line ∷ []) past ((λ r h. refl), ((λ r h. refl), tt)) was)

group_of : (header : Header) (outside : Outside) (past : List Event) (numbered : Numbered) (group history : List Event)
    → history ≡ group ++ event.Line numbered.line ∷ past → IsGroup header outside past numbered group → Paired past → Paired history
group_of header outside past numbered group history is made was =
    subst Paired (sym is) (group_paired header outside past numbered group (refusal header past numbered.command) (head header past numbered.command) refl made
    was)

follows_paired : (header : Header) (outside : Outside) (commands : List Numbered) (history : List Event) → Follows header outside commands history
    → Paired history
follows_paired header outside [] history is = subst Paired (sym is) (record { each = tt; shut = λ region. refl })
follows_paired header outside (numbered ∷ before) history (past, group, is, made, done, follows) =
    group_of header outside past numbered group history is made (follows_paired header outside before past follows)

so_far_paired : (header : Header) (outside : Outside) (commands : List Numbered) (history : List Event) → FollowsSoFar header outside commands history
    → Paired history
so_far_paired header outside [] history is = subst Paired (sym is) (record { each = tt; shut = λ region. refl })
so_far_paired header outside (numbered ∷ before) history (past, group, is, made, whole, follows) =
    group_of header outside past numbered group history is made (follows_paired header outside before past follows)

pub entered : (header : Header) (outside : Outside) (commands : List Numbered) (history : List Event) → FollowsSoFar header outside commands history
    → EachEvent EntersNext history
entered header outside commands history follows = (so_far_paired header outside commands history follows).each

pub none_open : (header : Header) (outside : Outside) (commands : List Numbered) (history : List Event) → FollowsSoFar header outside commands history
    → IsShut history
none_open header outside commands history follows = (so_far_paired header outside commands history follows).shut

-- what a command adds behind its line

pub entered_run : (header : Header) (before past : List Event) (doing : Command) (first more : List Event) → head header before doing ≡ Some first
    → EachIn IsConsequence more (reverse first ++ past) → EachEvent EntersNext past → IsShut past → EachEvent EntersNext (more ++ (reverse first ++ past))
entered_run header before past doing first more is follows each shut =
    (run_paired header before past doing first more is follows (record { each = each; shut = shut })).each

pub shut_run : (header : Header) (before past : List Event) (doing : Command) (first more : List Event) → head header before doing ≡ Some first
    → EachIn IsConsequence more (reverse first ++ past) → EachEvent EntersNext past → IsShut past → IsShut (more ++ (reverse first ++ past))
shut_run header before past doing first more is follows each shut =
    (run_paired header before past doing first more is follows (record { each = each; shut = shut })).shut
