-- In a step that took a message no task loses an entry; so whoever lives there lives on.
use Rattle.std.proofs.Common.{Bool, List, MatchOption, None, Option, Some, [], ap, append_assoc, arith, false, if◌then◌else◌, inl, inr, length, refl, reverse}
use Rattle.std.proofs.Common.{not, subst, sym, true, ℕ, ◌++◌, ◌+◌, ◌-◌, ◌/◌, ◌<◌, ◌∙◌, ◌∷◌, ◌≡◌, ◌≤◌, ◌⊎◌}
use mathlib.Core.List.{reverse_aux}
use Rattle.std.specs.Prelude.{◌==◌, ◌&&◌, ◌||◌, is_some, nat_lt}
use Rattle.vm_base.specs.declared.code.Code.{Code}
use Rattle.vm_base.specs.declared.entry.Entry.{Entry}
use Rattle.vm_base.specs.declared.ids.HostId.{HostId}
use Rattle.vm_base.specs.declared.ids.Inherit.{Inherit}
use Rattle.vm_base.specs.declared.ids.Inherit.TheVariants.{Copy, Never, Share}
use Rattle.vm_base.specs.Entries.{entered, entry_at, page_at}
use Rattle.vm_base.specs.declared.ids.ObjectId.{ObjectId}
use Rattle.vm_base.specs.declared.ids.PageNo.{PageNo}
use Rattle.vm_base.specs.declared.ids.RegionId.{RegionId}
use Rattle.vm_base.specs.declared.ids.TaskId.{TaskId}
use Rattle.vm_model.proofs.Ports.{at_place}
use Rattle.vm_model.specs.declared.command.Command.{Command}
use Rattle.vm_model.specs.declared.command.Command.TheVariants as command
use Rattle.vm_model.specs.declared.command.Numbered.{Numbered}
use Rattle.vm_model.specs.declared.event.Event.{Event}
use Rattle.vm_model.specs.declared.event.Event.TheVariants as event
use Rattle.vm_model.specs.declared.message.Channel.{Channel}
use Rattle.vm_model.specs.declared.message.Channel.TheVariants.{Down, Up}
use Rattle.vm_model.specs.declared.message.Message.{Message}
use Rattle.vm_model.specs.declared.message.Message.TheVariants as message
use Rattle.vm_model.specs.declared.script.Header.{Header}
use Rattle.vm_model.specs.Channels.{queue}
use Rattle.vm_model.specs.Controls.{is_control, last_control, live_control, without_control}
use Rattle.vm_model.specs.Moments.{BeforeSteps, EachEvent}
use Rattle.vm_model.specs.Named.{named}
use Rattle.vm_model.specs.Regions.{next_object, next_region}
use Rattle.vm_model.specs.Server.{first as oldest}
use Rattle.vm_model.specs.Tasks.{entries_of, has_entry, host_of}
use Rattle.vm_legal.proofs.Inside.{taken_more}
use Rattle.vm_legal.specs.Bytes.{CopiesCurrent}
use Rattle.vm_legal.specs.Cached.{is_cached}
use Rattle.vm_legal.specs.Follows.{Follows, FollowsAnyCut, IsBegun, IsConsequence, IsGroup, IsRun, cache_head, clean_head, copied_late, copy_head, fork_head}
use Rattle.vm_legal.specs.Follows.{head, inherits, inherits_all, map_head, next_behind, object_behind, opening, say_head, take_head}
use Rattle.vm_legal.specs.Frames.{frames_wired}
use Rattle.vm_legal.specs.Licences.{AllLicensed, Destroyed, EndCause, HasCause, Unheld, Unreachable}
use Rattle.vm_legal.specs.Swept.{IsUnheld, IsUnmapped}
use Rattle.vm_legal.specs.Outside.{Outside, is_file}
use Rattle.vm_legal.specs.Pagers.{Known, known_below}
use Rattle.vm_legal.specs.Prompt.{Prompt}
use Rattle.vm_legal.specs.Refusal.{refusal}
use Rattle.vm_legal.specs.Steps.{Asked, Letter, absence_taken, before_step, taken_letter}
use Rattle.vm_legal.specs.Stretches.{AllInner, EachIn}
use Rattle.vm_legal.specs.Walks.{page_on}
use Rattle.vm_flat.proofs.Heads.{Orderly, orderly}
use Rattle.vm_flat.proofs.Pagers.{not_taken}
use Rattle.vm_flat.proofs.Reaching.{FollowsTaken, unreached_then}
use Rattle.vm_flat.proofs.Using.{by_cause}
use Rattle.vm_flat.proofs.Voids.{Came, absent, came, not_absent}
use Rattle.vm_legal.specs.Destroyed.{destroy_taken}
use Rattle.std.proofs.lemmas.Option.{none-some}

-- in a step that took a message the event follows from it; and it keeps to what groups keep to
abbrev pub TakingKeeps : Event → List Event → Type 0
TakingKeeps e past = FollowsTaken e past × Orderly e past

consequence : (e : Event) (past : List Event) → IsConsequence e past → FollowsTaken e past
consequence (event.Line line) past is = tt
consequence other past is = λ letter taken. is

consequences : (events past : List Event) → EachIn IsConsequence events past → EachEvent FollowsTaken past → EachEvent FollowsTaken (events ++ past)
consequences [] past each was = was
consequences (e ∷ events) past each was = (consequence e (events ++ past) each.0, consequences events past each.1 was)

-- heads

inner_both : (events more : List Event) → AllInner events → AllInner more → AllInner (events ++ more)
inner_both [] more one two = two
inner_both (e ∷ events) more one two = (one.0, inner_both events more one.1 two)

-- nothing was taken
untaken : (e : Event) (past : List Event) → taken_letter past ≡ None → FollowsTaken e past
untaken (event.Line line) past none = tt
untaken other past none = λ letter is. not_taken letter (sym none ∙ is)

-- nothing was taken in front of them
behind_nothing : (events past : List Event) → AllInner events → taken_letter past ≡ None → EachEvent FollowsTaken past
    → EachEvent FollowsTaken (events ++ past)
behind_nothing [] past inner none was = was
behind_nothing (e ∷ events) past inner none was =
    (untaken e (events ++ past) (taken_more events past inner.1 ∙ none), behind_nothing events past inner.1 none was)

inner_onto : (events more : List Event) → AllInner events → AllInner more → AllInner (reverse_aux events more)
inner_onto [] more one two = two
inner_onto (e ∷ events) more one two = inner_onto events (e ∷ more) one.1 (one.0, two)

-- a head takes nothing, or it is the taking of one message
abbrev IsHead : List Event → Type 0
IsHead first = AllInner first ⊎ ((channel : Channel) × (m : Message) × (event.Taken channel m ∷ [] ≡ first))

plain : (events first : List Event) → AllInner events → Some events ≡ Some first → IsHead first
plain events first inner is = let same : events ≡ first = cc in inl (subst AllInner same inner)

no_head : (first : List Event) → None ≡ Some first → IsHead first
no_head first is = absurd (cc)

inner_late : (delayed : Bool) (next object : ℕ) (source : RegionId) (offset pages : ℕ) (events : List Event) → AllInner events
    → AllInner (copied_late delayed next object source offset pages ∷ events)
inner_late true next object source offset pages events inner = (tt, inner)
inner_late false next object source offset pages events inner = (tt, inner)

inherits_inner : (kind : Inherit) (header : Header) (child : TaskId) (next object : ℕ) (row : Entry) → AllInner (inherits kind header child next object row)
inherits_inner Share header child next object row = (tt, tt)
inherits_inner Copy header child next object row =
    inner_late (nat_lt row.region.0 (named header)) next object row.region row.offset (row.bytes / header.size)
    (event.Entered child row.address row.bytes (record { 0 = next }) 0 row.prot row.inherit ∷ []) (tt, tt)
inherits_inner Never header child next object row = tt

all_inner : (header : Header) (child : TaskId) (next object : ℕ) (rows : List Entry) → AllInner (inherits_all header child next object rows)
all_inner header child next object [] = tt
all_inner header child next object (row ∷ rows) =
    let region = next_behind row.inherit next in
    let number = object_behind row.inherit header row.region object in
    inner_both (inherits row.inherit header child next object row) (inherits_all header child region number rows)
    (inherits_inner row.inherit header child next object row) (all_inner header child region number rows)

forked : (header : Header) (next object : ℕ) (child : TaskId) (x : Option ℕ) (rows : List Entry) (first : List Event)
    → fork_head header next object child x rows ≡ Some first → IsHead first
forked header next object child None rows first is = no_head first is
forked header next object child (Some host) rows first is =
    plain (event.TaskMade child (record { 0 = host }) ∷ inherits_all header child next object rows) first (tt, all_inner header child next object rows) is

copied : (header : Header) (next object : ℕ) (task : TaskId) (address bytes : ℕ) (target : TaskId) (to : ℕ) (x : Option Entry) (first : List Event)
    → copy_head header next object task address bytes target to x ≡ Some first → IsHead first
copied header next object task address bytes target to None first is = no_head first is
copied header next object task address bytes target to (Some row) first is =
    by (nat_lt row.region.0 (named header) && not (is_file header row.region.0)) is
  where
    slow : List Event
    slow = event.BegunCopy task address bytes to ∷ event.RegionMade (record { 0 = next }) (record { 0 = object }) (bytes / header.size) ∷ []

    entry : Event
    entry = event.Entered target to bytes (record { 0 = next }) 0 (record { read = true; write = true }) Copy

    late : List Event
    late = copied_late (is_file header row.region.0) next object row.region (page_at header.size address row) (bytes / header.size) ∷ entry ∷ []

    by : (b : Bool) → Some (if b then slow else late) ≡ Some first → IsHead first
    by true is = plain slow first (tt, (tt, tt)) is
    by false is =
        plain late first
        (inner_late (is_file header row.region.0) next object row.region (page_at header.size address row) (bytes / header.size) (entry ∷ []) (tt, tt)) is

taken : (channel : Channel) (x : Option Message) (first : List Event) → take_head channel x ≡ Some first → IsHead first
taken channel None first is = no_head first is
taken channel (Some m) first is = let same : event.Taken channel m ∷ [] ≡ first = cc in inr (channel, m, same)

said : (host : HostId) (object : ObjectId) (m : Message) (x : Option ℕ) (first : List Event) → say_head host object m x ≡ Some first → IsHead first
said host object m None first is = no_head first is
said host object m (Some control) first is = plain (event.Sent (Down host object control) m ∷ []) first (tt, tt) is

opened : (host : ℕ) (object : ObjectId) (next size : ℕ) (x : Option ℕ) → AllInner (opening host object next size x)
opened host object next size None = (tt, tt)
opened host object next size (Some control) = tt

mapped : (header : Header) (task : TaskId) (address bytes : ℕ) (object : ObjectId) (offset : ℕ) (before : List Event) (x : Option ℕ) (first : List Event)
    → map_head header task address bytes object offset before x ≡ Some first → IsHead first
mapped header task address bytes object offset before None first is = no_head first is
mapped header task address bytes object offset before (Some host) first is =
    plain
    (event.Entered task address bytes (record { 0 = object.0 }) offset (record { read = true; write = true }) Share
    ∷ opening host object (last_control host object.0 before + 1) header.size (live_control host object.0 before))
    first (tt, opened host object (last_control host object.0 before + 1) header.size (live_control host object.0 before)) is

cleaned : (object : ObjectId) (page : PageNo) (count : ℕ) (flush : Bool) (x : Option Known) (first : List Event)
    → Some (clean_head object page count flush x) ≡ Some first → IsHead first
cleaned object page count flush None first is = plain [] first tt is
cleaned object page count flush (Some known) first is =
    plain (event.Sent (Down (record { 0 = known.host }) object known.control) (message.Lock page count 2 flush 8 true) ∷ []) first (tt, tt) is

cached : (object : ObjectId) (cache : Bool) (x : Option Known) (first : List Event) → Some (cache_head object cache x) ≡ Some first → IsHead first
cached object cache None first is = plain [] first tt is
cached object cache (Some known) first is =
    plain (event.Sent (Down (record { 0 = known.host }) object known.control) (message.Attributes cache 2 true) ∷ []) first (tt, tt) is

is_head : (header : Header) (before : List Event) (doing : Command) (first : List Event) → head header before doing ≡ Some first → IsHead first
is_head header before (command.Allocate task address bytes) first is =
    plain
    (event.RegionMade (record { 0 = next_region header before }) (record { 0 = next_object header before }) (bytes / header.size)
    ∷ event.Entered task address bytes (record { 0 = next_region header before }) 0 (record { read = true; write = true }) Copy ∷ [])
    first (tt, (tt, tt)) is
is_head header before (command.Task task host) first is = plain (event.TaskMade task host ∷ []) first (tt, tt) is
is_head header before (command.Load task address size) first is = plain (event.BegunLoad task address size ∷ []) first (tt, tt) is
is_head header before (command.Store task address size value) first is = plain (event.BegunStore task address size value ∷ []) first (tt, tt) is
is_head header before (command.Fork task child) first is =
    forked header (next_region header before) (next_object header before) child (host_of task.0 before) (entries_of header.size task.0 before) first is
is_head header before (command.Copy task address bytes target to) first is =
    copied header (next_region header before) (next_object header before) task address bytes target to
    (entry_at address (entries_of header.size task.0 before)) first is
is_head header before (command.Exit task) first is = plain (event.TaskEnded task ∷ []) first (tt, tt) is
is_head header before (command.Deallocate task address bytes) first is = plain (event.Removed task address bytes ∷ []) first (tt, tt) is
is_head header before (command.Protect task address bytes prot) first is = plain (event.Protected task address bytes prot ∷ []) first (tt, tt) is
is_head header before (command.Inherit task address bytes inherit) first is = plain (event.Inherited task address bytes inherit ∷ []) first (tt, tt) is
is_head header before (command.Take channel) first is = taken channel (oldest (queue channel before)) first is
is_head header before (command.Settle count) first is = plain [] first tt is
is_head header before (command.Wire host count) first is = plain (event.Wired host (frames_wired host.0 before + count) ∷ []) first (tt, tt) is
is_head header before (command.Unwire host count) first is = plain (event.Wired host (frames_wired host.0 before - count) ∷ []) first (tt, tt) is
is_head header before (command.Pageout host count) first is = plain [] first tt is
is_head header before (command.FailFiles count) first is = plain [] first tt is
is_head header before (command.FailPaging count) first is = plain [] first tt is
is_head header before (command.Say host object m) first is = said host object m (live_control host.0 object.0 before) first is
is_head header before (command.Map task address bytes object offset) first is =
    mapped header task address bytes object offset before (host_of task.0 before) first is
is_head header before (command.Clean object page count flush) first is =
    cleaned object page count flush (known_below (length header.frames.items) object.0 before) first is
is_head header before (command.Cache object cache) first is = cached object cache (known_below (length header.frames.items) object.0 before) first is

behind_line : (first : List Event) (line : ℕ) (past : List Event) → IsHead first → EachEvent FollowsTaken past
    → EachEvent FollowsTaken (reverse first ++ event.Line line ∷ past)
behind_line first line past (inl inner) was =
    behind_nothing (reverse first) (event.Line line ∷ past) (inner_onto first [] inner tt) refl (tt, was)
behind_line first line past (inr (channel, m, is)) was =
    subst (λ (z : List Event). EachEvent FollowsTaken (reverse z ++ event.Line line ∷ past)) is ((λ letter taken. tt), (tt, was))

-- groups

group_keeps : (header : Header) (outside : Outside) (past : List Event) (numbered : Numbered) (group : List Event) (refused : Option Code)
    (x : Option (List Event)) → head header past numbered.command ≡ x
    → MatchOption refused (MatchOption x ⊥ (λ events. IsRun header outside past numbered events group)) (λ code. group ≡ event.Refused code ∷ [])
    → EachEvent FollowsTaken past → EachEvent FollowsTaken (group ++ event.Line numbered.line ∷ past)
group_keeps header outside past numbered group None None is made was = absurd made
group_keeps header outside past numbered group None (Some events) is run was =
    let whole = consequences run.more (reverse events ++ event.Line numbered.line ∷ past) run.follows
    (behind_line events numbered.line past (is_head header past numbered.command events is) was) in
    subst (EachEvent FollowsTaken) (sym (append_assoc run.more (reverse events) (event.Line numbered.line ∷ past))
    ∙ ap (λ z. z ++ event.Line numbered.line ∷ past) (sym run.is)) whole
group_keeps header outside past numbered group (Some code) x is made was =
    subst (λ (g : List Event). EachEvent FollowsTaken (g ++ event.Line numbered.line ∷ past)) (sym made) ((λ letter is. not_taken letter is), (tt, was))

with_group : (header : Header) (outside : Outside) (past : List Event) (numbered : Numbered) (group history : List Event)
    → history ≡ group ++ event.Line numbered.line ∷ past → IsGroup header outside past numbered group
    → EachEvent FollowsTaken past → EachEvent FollowsTaken history
with_group header outside past numbered group history is made was =
    subst (EachEvent FollowsTaken) (sym is) (group_keeps header outside past numbered group (refusal header past numbered.command)
    (head header past numbered.command) refl made was)

whole_keeps : (header : Header) (outside : Outside) (commands : List Numbered) (history : List Event) → Follows header outside commands history
    → EachEvent FollowsTaken history
whole_keeps header outside [] history is = subst (EachEvent FollowsTaken) (sym is) tt
whole_keeps header outside (numbered ∷ before) history (past, group, is, made, done, follows) =
    with_group header outside past numbered group history is made (whole_keeps header outside before past follows)

-- wherever the history ends

each_behind : (front past : List Event) → EachEvent FollowsTaken (front ++ past) → EachEvent FollowsTaken past
each_behind [] past each = each
each_behind (e ∷ front) past each = each_behind front past each.1

begun_keeps : (header : Header) (outside : Outside) (past : List Event) (numbered : Numbered) (group : List Event) (refused : Option Code)
    (x : Option (List Event)) → head header past numbered.command ≡ x
    → MatchOption refused
    (MatchOption x ⊥ (λ first. IsRun header outside past numbered first group
    ⊎ (IsBegun first group × AllLicensed header outside numbered.command group (event.Line numbered.line ∷ past))))
    (λ code. (group ≡ []) ⊎ (group ≡ event.Refused code ∷ []))
    → EachEvent FollowsTaken past → EachEvent FollowsTaken (group ++ event.Line numbered.line ∷ past)
begun_keeps header outside past numbered group None None is made was = absurd made
begun_keeps header outside past numbered group None (Some first) is (inl run) was = group_keeps header outside past numbered group None
    (Some first) is run was
begun_keeps header outside past numbered group None (Some first) is (inr begun) was =
    let behind = event.Line numbered.line ∷ past in
    let whole = behind_line first numbered.line past (is_head header past numbered.command first is) was in
    each_behind begun.0.rest (group ++ behind) (subst (EachEvent FollowsTaken) (ap (λ z. z ++ behind) begun.0.is
    ∙ append_assoc begun.0.rest group behind) whole)
begun_keeps header outside past numbered group (Some code) x is (inl none) was =
    subst (λ (g : List Event). EachEvent FollowsTaken (g ++ event.Line numbered.line ∷ past)) (sym none) (tt, was)
begun_keeps header outside past numbered group (Some code) x is (inr made) was = group_keeps header outside past numbered group (Some code) x is made was

follow_taken : (header : Header) (outside : Outside) (commands : List Numbered) (history : List Event) → FollowsAnyCut header outside commands history
    → EachEvent FollowsTaken history
follow_taken header outside [] history is = subst (EachEvent FollowsTaken) (sym is) tt
follow_taken header outside (numbered ∷ before) history (past, group, is, made, follows) =
    subst (EachEvent FollowsTaken) (sym is) (begun_keeps header outside past numbered group (refusal header past numbered.command)
    (head header past numbered.command) refl made (whole_keeps header outside before past follows))

two_of : (past : List Event) → EachEvent FollowsTaken past → EachEvent Orderly past → EachEvent TakingKeeps past
two_of [] one two = tt
two_of (e ∷ past) one two = ((one.0, two.0), two_of past one.1 two.1)

pub takings_keep : (header : Header) (outside : Outside) (commands : List Numbered) (history : List Event) → FollowsAnyCut header outside commands history
    → EachEvent TakingKeeps history
takings_keep header outside commands history follows =
    two_of history (follow_taken header outside commands history follows) (orderly header outside commands history follows)

-- in such a step

-- whoever has no entry on a region with one entry more had none on it
neither : (a b : Bool) → (a || b) ≡ false → (a ≡ false) × (b ≡ false)
neither true b is = absurd (let bad : true ≡ false = is in cc)
neither false b is = (refl, is)

without : (region : ℕ) (row : Entry) (rows : List Entry) → has_entry region (entered row rows) ≡ false → has_entry region rows ≡ false
without region row [] none = refl
without region row (first ∷ rows) none = by (nat_lt row.address first.address) (without region row rows) none
  where
    by : (b : Bool) → (has_entry region (entered row rows) ≡ false → has_entry region rows ≡ false)
        → has_entry region (if b then row ∷ first ∷ rows else first ∷ entered row rows) ≡ false → has_entry region (first ∷ rows) ≡ false
    by true later is = (neither (row.region.0 == region) (has_entry region (first ∷ rows)) is).1
    by false later is = let both = neither (first.region.0 == region) (has_entry region (entered row rows)) is in rw (both.0, later both.1) refl

fewer : (b : Bool) (region : ℕ) (row : Entry) (rows : List Entry) → has_entry region (if b then entered row rows else rows) ≡ false
    → has_entry region rows ≡ false
fewer true region row rows none = without region row rows none
fewer false region row rows none = none

-- what no entry leads to now had none when the step began
unmapped_then : (header : Header) (host region : ℕ) (letter : Letter) (past : List Event) → EachEvent TakingKeeps past → taken_letter past ≡ Some letter
    → IsUnmapped header host region past → IsUnmapped header host region (before_step past)
unmapped_then header host region letter [] keeps is unmapped = not_taken letter is
unmapped_then header host region letter (event.Line line ∷ past) keeps is unmapped = not_taken letter is
unmapped_then header host region letter (event.Taken channel m ∷ past) keeps is unmapped = unmapped
unmapped_then header host region letter (event.TaskMade task at ∷ past) keeps is unmapped = absurd (keeps.0.0 letter is)
unmapped_then header host region letter (event.TaskEnded task ∷ past) keeps is unmapped = absurd (keeps.0.0 letter is)
unmapped_then header host region letter (event.Entered task address bytes on offset prot inherit ∷ past) keeps is unmapped =
    unmapped_then header host region letter past keeps.1 is (λ owner lives.
    fewer (task.0 == owner) region (record { address = address; bytes = bytes; region = on; offset = offset; prot = prot; inherit = inherit })
    (entries_of header.size owner past) (unmapped owner lives))
unmapped_then header host region letter (event.Removed task address bytes ∷ past) keeps is unmapped = absurd (keeps.0.0 letter is)
unmapped_then header host region letter (event.Protected task address bytes prot ∷ past) keeps is unmapped = absurd (keeps.0.0 letter is)
unmapped_then header host region letter (event.Inherited task address bytes inherit ∷ past) keeps is unmapped = absurd (keeps.0.0 letter is)
unmapped_then header host region letter (e ∷ past) keeps is unmapped = unmapped_then header host region letter past keeps.1 is unmapped

prompt_then : (header : Header) (letter : Letter) (past : List Event) → BeforeSteps (Prompt header) past → taken_letter past ≡ Some letter
    → Prompt header (before_step past)
prompt_then header letter [] prompt is = not_taken letter is
prompt_then header letter (event.Line line ∷ past) prompt is = not_taken letter is
prompt_then header letter (event.Taken channel m ∷ past) prompt is = prompt.0
prompt_then header letter (e ∷ past) prompt is = prompt_then header letter past prompt is

-- the step took the pager's word that a page is absent, for a control that lived
record Absence (host o : ℕ) (past : List Event) : Type 0 where
  letter : Letter
  taken : taken_letter past ≡ Some letter
  lived : is_some (live_control host o (before_step past)) ≡ true

lives : (control : ℕ) (live : Option ℕ) (b : Bool) → (is_control control live && b) ≡ true → is_some live ≡ true
lives control None b is = absurd (let bad : false ≡ true = is in cc)
lives control (Some k) b is = refl

absence : (header : Header) (host o p : ℕ) (past : List Event) → absence_taken header past ≡ Some (absent host o p) → Absence host o past
absence header host o p [] is = not_absent _ is
absence header host o p (event.Line line ∷ past) is = not_absent _ is
absence header host o p (event.Taken (Up at object) m ∷ past) is = not_absent _ is
absence header host o p (event.Taken (Down at object control) (message.Unavailable page) ∷ past) is =
    let c : Came host o p at.0 object.0 page.0 (is_control control (live_control at.0 object.0 past) &&
    (page_on header at.0 object.0 page.0 past).asked) = came
    host o p at.0 object.0 page.0 _ is in
    record {
      letter = record { channel = Down at object control; message = message.Unavailable page };
      taken = refl;
      lived =
          subst (λ (h : ℕ). is_some (live_control h o past) ≡ true) c.host (subst (λ (k : ℕ). is_some (live_control at.0 k past) ≡ true) c.object
          (lives control (live_control at.0 object.0 past) (page_on header at.0 object.0 page.0 past).asked c.counts));
    }
absence header host o p (event.Taken (Down at object control) other ∷ past) is = not_absent _ is
absence header host o p (e ∷ past) is = let was = absence header host o p past is in record { letter = was.letter; taken = was.taken; lived = was.lived }

none_some : (x : Option ℕ) → x ≡ None → is_some x ≡ true → ⊥
none_some x none some = let bad : false ≡ true = sym (ap is_some none) ∙ some in cc

-- a control lives in such a step, and its object stays, or doesn't, as when the step began
record Kept (host o : ℕ) (past : List Event) : Type 0 where
  lives : is_some (live_control host o past) ≡ true
  cached : is_cached host o past ≡ is_cached host o (before_step past)

-- that word itself changes no control's attributes
taken_kept : (header : Header) (host o p : ℕ) (channel : Channel) (m : Message) (past : List Event)
    → absence_taken header (event.Taken channel m ∷ past) ≡ Some (absent host o p) → is_cached host o (event.Taken channel m ∷ past) ≡ is_cached host o past
taken_kept header host o p (Up at object) m past is = not_absent _ is
taken_kept header host o p (Down at object control) (message.Unavailable page) past is = refl
taken_kept header host o p (Down at object control) other past is = not_absent _ is

each_follows : (past : List Event) → EachEvent TakingKeeps past → EachEvent FollowsTaken past
each_follows [] keeps = tt
each_follows (e ∷ past) keeps = (keeps.0.0, each_follows past keeps.1)

each_orderly : (past : List Event) → EachEvent TakingKeeps past → EachEvent Orderly past
each_orderly [] keeps = tt
each_orderly (e ∷ past) keeps = (keeps.0.1, each_orderly past keeps.1)

-- no declared object's control ends in such a step
ends_never : {A : Type 0} (header : Header) (outside : Outside) (host o p : ℕ) (past : List Event) → EachEvent (HasCause header outside) past
    → EachEvent (CopiesCurrent header outside) past → EachEvent TakingKeeps past → BeforeSteps (Prompt header) past
    → host < length header.frames.items → o < named header → absence_taken header past ≡ Some (absent host o p)
    → Kept host o past → IsUnheld header host o past → A
ends_never header outside host o p past caused current keeps prompt inside below is kept unheld =
    let was : Absence host o past = absence header host o p past is in
    absurd
    (none_some (live_control host o (before_step past)) ((prompt_then header was.letter past prompt was.taken host inside).swept.declared_controls o below
    (record {
      unmapped = unmapped_then header host o was.letter past keeps was.taken unheld.unmapped;
      uncached = sym kept.cached ∙ unheld.uncached;
      unreached =
          unreached_then header outside host o was.letter past caused current (each_follows past keeps) (each_orderly past keeps) was.taken below
          unheld.unreached;
    })) was.lived)

-- the step took no end of an object
absent_undestroyed : {a : Asked} (header : Header) (past : List Event) → absence_taken header past ≡ Some a → destroy_taken past ≡ None
absent_undestroyed header [] is = refl
absent_undestroyed header (event.Line line ∷ past) is = refl
absent_undestroyed header (event.Taken (Up at object) m ∷ past) is = refl
absent_undestroyed header (event.Taken (Down at object control) (message.Destroy reason) ∷ past) is = not_absent _ is
absent_undestroyed header (event.Taken (Down at object control) m ∷ past) is = refl
absent_undestroyed header (e ∷ past) is = absent_undestroyed header past is

-- so a declared object that ends is one that nothing holds
unheld_by : (header : Header) (h k : ℕ) (past : List Event) → k < named header → destroy_taken past ≡ None → EndCause header h k past
    → IsUnheld header h k past
unheld_by header h k past below none (Unreachable above gone unasked) = absurd (omega (arith, above, below))
unheld_by header h k past below none (Unheld declared unheld unasked) = unheld
unheld_by header h k past below none (Destroyed destroyed) = absurd (none-some _ (sym none ∙ destroyed.taken))

elsewhere : {A : Type 0} (b : Bool) (x y : A) → (b ≡ true → ⊥) → (if b then x else y) ≡ y
elsewhere true x y never = absurd (never refl)
elsewhere false x y never = refl

-- what begins or ends the control of another object, or on another host, keeps this one
kept_apart : (b cached was : Bool) (live next : Option ℕ) → (b ≡ true → ⊥) → is_some live ≡ true → cached ≡ was
    → (is_some (if b then next else live) ≡ true) × ((if b then false else cached) ≡ was)
kept_apart b cached was live next never some same = (ap is_some (elsewhere b next live never) ∙ some, elsewhere b false cached never ∙ same)

kept_then : (header : Header) (outside : Outside) (host o p : ℕ) (past : List Event) → EachEvent (HasCause header outside) past
    → EachEvent (CopiesCurrent header outside) past → EachEvent TakingKeeps past → BeforeSteps (Prompt header) past → host < length header.frames.items
    → o < named header → absence_taken header past ≡ Some (absent host o p) → Kept host o past
kept_then header outside host o p [] caused current keeps prompt inside below is = not_absent _ is
kept_then header outside host o p (event.Line line ∷ past) caused current keeps prompt inside below is = not_absent _ is
kept_then header outside host o p (event.Taken channel m ∷ past) caused current keeps prompt inside below is =
    record { lives = (absence header host o p (event.Taken channel m ∷ past) is).lived; cached = taken_kept header host o p channel m past is }
kept_then header outside host o p (event.Sent (Up at object) (message.Init control size) ∷ past) caused current keeps prompt inside below is =
    let was = kept_then header outside host o p past caused.1 current.1 keeps.1 prompt inside below is in
    let apart = kept_apart (at.0 == host && object.0 == o) (is_cached host o past) (is_cached host o (before_step past)) (live_control host o past)
    (Some control)
    (λ same. by_cause header outside (event.Sent (Up at object) (message.Init control size)) past caused.0 (λ doing c.
    none_some (live_control host o past) (at_place (λ h k. live_control h k past ≡ None) at.0 object.0 host o same c.none) was.lives))
    was.lives was.cached in
    record { lives = apart.0; cached = apart.1 }
kept_then header outside host o p (event.Sent (Up at object) (message.Create control size) ∷ past) caused current keeps prompt inside below is =
    let was = kept_then header outside host o p past caused.1 current.1 keeps.1 prompt inside below is in
    let apart = kept_apart (at.0 == host && object.0 == o) (is_cached host o past) (is_cached host o (before_step past)) (live_control host o past)
    (Some control)
    (λ same. by_cause header outside (event.Sent (Up at object) (message.Create control size)) past caused.0 (λ doing c.
    let temporary : named header ≤ o = at_place (λ h k. named header ≤ k) at.0 object.0 host o same c.temporary in absurd (omega (arith, temporary, below))))
    was.lives was.cached in
    record { lives = apart.0; cached = apart.1 }
kept_then header outside host o p (event.Sent (Up at object) (message.Terminate control) ∷ past) caused current keeps prompt inside below is =
    let was = kept_then header outside host o p past caused.1 current.1 keeps.1 prompt inside below is in
    let apart = kept_apart (at.0 == host && object.0 == o) (is_cached host o past) (is_cached host o (before_step past)) (live_control host o past)
    (without_control control (live_control host o past))
    (λ same. by_cause header outside (event.Sent (Up at object) (message.Terminate control)) past caused.0 (λ doing c.
    ends_never header outside host o p past caused.1 current.1 keeps.1 prompt inside below is was
    (unheld_by header host o past below (absent_undestroyed header past is)
    (at_place (λ h k. EndCause header h k past) at.0 object.0 host o same c.why))))
    was.lives was.cached in
    record { lives = apart.0; cached = apart.1 }
kept_then header outside host o p (event.Sent (Up at object) m ∷ past) caused current keeps prompt inside below is =
    let was = kept_then header outside host o p past caused.1 current.1 keeps.1 prompt inside below is in record { lives = was.lives; cached = was.cached }
kept_then header outside host o p (e ∷ past) caused current keeps prompt inside below is =
    let was = kept_then header outside host o p past caused.1 current.1 keeps.1 prompt inside below is in record { lives = was.lives; cached = was.cached }

-- the control lives on, to the end of the step
pub lives_on_then : (header : Header) (outside : Outside) (host o p : ℕ) (past : List Event) → EachEvent (HasCause header outside) past
    → EachEvent (CopiesCurrent header outside) past → EachEvent TakingKeeps past → BeforeSteps (Prompt header) past → host < length header.frames.items
    → o < named header → absence_taken header past ≡ Some (absent host o p) → is_some (live_control host o past) ≡ true
lives_on_then header outside host o p past caused current keeps prompt inside below is =
    (kept_then header outside host o p past caused current keeps prompt inside below is).lives
