-- What is no host's leaves all kernels what they stand for.
use Rattle.vm_hosts.proofs.Common.{AllInner, AllInTurn, AllQueued, AllRest, Code, Command, Down, EachIn, EachOf, EntersNext, Event, HasCause, Header, HostTable}
use Rattle.vm_hosts.proofs.Common.{Ids, InRange, IsAbroad, IsCommon, IsNobodys, LicensedInTurn, List, Message, None, ObjectKind, Outside, PagerSends, Says}
use Rattle.vm_hosts.proofs.Common.{Temp, Up, [], false, inl, inr, just_begun, kind_of, length, next_object, next_region, nobodys_abroad, nobodys_shut, owed}
use Rattle.vm_hosts.proofs.Common.{queue_abroad, refl, rests_abroad, sound_caused, subst, sym, true, ℕ, ◌++◌, ◌∙◌, ◌∷◌, ◌≡◌, ◌≤◌, ◌⊎◌}
use Rattle.vm_legal.proofs.Owing.{behind_none}
use Rattle.vm_model.specs.declared.event.Event.TheVariants as event
use Rattle.vm_model.specs.declared.message.Message.TheVariants as message
use Rattle.vm_model.specs.declared.command.Command.TheVariants as command
use Rattle.vm_base.specs.declared.ids.ObjectKind.TheVariants.{File, Shared, Wild}
use Rattle.vm_hosts.proofs.Acting.{MakesOn, homes_more, tasks_more}
use Rattle.std.proofs.Common.{◌+◌}
use Rattle.vm_abroad.proofs.Home.{homes_next}
use Rattle.vm_base.specs.Limits.{most_objects}
use Rattle.vm_state.specs.Counts.{marks_of}
use Rattle.vm_hosts.proofs.Tables.{common_all}
use Rattle.vm_kernel.proofs.controls.LockReplied.{nobody_replied}
use Rattle.vm_legal.proofs.Turns.{cause_of}

makes_nothing : (n : ℕ) (events : List Event) → EachOf IsNobodys events → EachOf (MakesOn n) events
makes_nothing n [] nobodys = tt
makes_nothing n (e ∷ events) nobodys = (one e nobodys.0, makes_nothing n events nobodys.1)
  where
    one : (e : Event) → IsNobodys e → MakesOn n e
    one (event.TaskMade task host) nobodys = absurd nobodys
    one other nobodys = tt

-- a pager makes no control

-- the event isn't a create that is said to a host
abbrev pub MakesNoControl : Event → Type 0
MakesNoControl (event.Sent (Down host object control) (message.Create number size)) = ⊥
MakesNoControl other = Unit {0}

-- the script says none
abbrev pub SaysNoCreate : Command → Type 0
SaysNoCreate (command.Say host object (message.Create number size)) = ⊥
SaysNoCreate other = Unit {0}

pub ranged_says : (header : Header) (doing : Command) → InRange header doing → SaysNoCreate doing
ranged_says header (command.Say host object (message.Create number size)) range = absurd range.2
ranged_says header other range = tt

-- so no pager does
says_none : (doing : Command) (host object control number size : ℕ) (past : List Event) → SaysNoCreate doing ⊎ (just_begun past ≡ false)
    → Says doing host object control (message.Create number size) past → ⊥
says_none (command.Say at wild said) host object control number size past (inl none) says =
    subst (λ (z : Message). SaysNoCreate (command.Say at wild z)) says.2 none
says_none (command.Say at wild said) host object control number size past (inr later) says = let bad : false ≡ true = sym later ∙ says.4 in absurd (cc)
says_none other host object control number size past why says = absurd says

kind_sends : (header : Header) (outside : Outside) (doing : Command) (kind : ObjectKind) (host object control number size : ℕ) (past : List Event)
    → SaysNoCreate doing ⊎ (just_begun past ≡ false) → PagerSends kind header outside doing host object control (message.Create number size) past → ⊥
kind_sends header outside doing Temp host object control number size past why sends = sends
kind_sends header outside doing File host object control number size past why sends = sends
kind_sends header outside doing Shared host object control number size past why sends = sends
kind_sends header outside doing Wild host object control number size past why sends = says_none doing host object control number size past why sends

one_sends : (header : Header) (outside : Outside) (doing : Command) (e : Event) (past : List Event) → SaysNoCreate doing ⊎ (just_begun past ≡ false)
    → LicensedInTurn header outside doing e past → MakesNoControl e
one_sends header outside doing (event.Sent (Down host object control) (message.Create number size)) past why licensed =
    kind_sends header outside doing (kind_of header object.0) host.0 object.0 control number size past why licensed.0
one_sends header outside doing other past why licensed = tt

-- a step whose command says none makes no control
pub said_controls : (header : Header) (outside : Outside) (doing : Command) (events past : List Event) → SaysNoCreate doing
    → AllInTurn header outside doing events past → EachOf MakesNoControl events
said_controls header outside doing [] past none licensed = tt
said_controls header outside doing (e ∷ events) past none licensed =
    (one_sends header outside doing e (events ++ past) (inl none) licensed.0, said_controls header outside doing events past none licensed.1)

-- nor does what is told behind an event that is no line, whatever the command is

later_begun : (told past : List Event) (e : Event) → just_begun (e ∷ past) ≡ false → AllInner told → just_begun (told ++ e ∷ past) ≡ false
later_begun [] past e none inner = none
later_begun (event.Line line ∷ told) past e none inner = absurd inner.0
later_begun (f ∷ told) past e none inner = refl

pub told_controls : (header : Header) (outside : Outside) (doing : Command) (told past : List Event) (e : Event) → just_begun (e ∷ past) ≡ false → AllInner told
    → AllInTurn header outside doing told (e ∷ past) → EachOf MakesNoControl told
told_controls header outside doing [] past e none inner licensed = tt
told_controls header outside doing (f ∷ told) past e none inner licensed = (
  one_sends header outside doing f (told ++ e ∷ past) (inr (later_begun told past e none inner.1)) licensed.0,
  told_controls header outside doing told past e none inner.1 licensed.1,
)

none_owed_behind : (e : Event) (past : List Event) → IsNobodys e → MakesNoControl e → owed (e ∷ past) ≡ None
none_owed_behind (event.Sent (Down host object control) (message.Create number size)) past nobodys none = absurd none
none_owed_behind (event.Sent (Up host object) m) past nobodys none = absurd nobodys
none_owed_behind (event.CopyEnded task) past nobodys none = absurd nobodys
none_owed_behind other past nobodys none = refl

-- the next numbers of regions and objects, and the regions
pub record SameTables (header : Header) (past new : List Event) : Type 0 where
  pub region : next_region header new ≡ next_region header past
  pub object : next_object header new ≡ next_object header past
  pub marks : marks_of header new ≡ marks_of header past

same_tables : (header : Header) (e : Event) (past : List Event) → IsNobodys e → SameTables header past (e ∷ past)
same_tables header (event.RegionMade region object pages) past nobodys = absurd nobodys
same_tables header (event.RegionCopied region source offset pages) past nobodys = absurd nobodys
same_tables header (event.Delayed region source offset pages copy) past nobodys = absurd nobodys
same_tables header (event.Shadowed region new old) past nobodys = absurd nobodys
same_tables header (event.Unmarked region) past nobodys = absurd nobodys
same_tables header (event.Entered task address bytes region offset prot inherit) past nobodys = absurd nobodys
same_tables header other past nobodys = record { region = refl; object = refl; marks = refl }

common_more : (header : Header) (outside : Outside) (doing : Command) (ids : Ids) (events past : List Event) → EachOf MakesNoControl events
    → EachOf IsNobodys events → AllInTurn header outside doing events past → IsCommon header ids past → IsCommon header ids (events ++ past)
common_more header outside doing ids [] past none nobodys licensed common = common
common_more header outside doing ids (e ∷ events) past none nobodys licensed common =
    let before = common_more header outside doing ids events past none.1 nobodys.1 licensed.1 common in
    let same = same_tables header e (events ++ past) nobodys.0 in
    record {
      region = before.region ∙ sym same.region;
      object = before.object ∙ sym same.object;
      marks = before.marks ∙ sym same.marks;
      few =
          subst (λ (z : ℕ). z + marks_of header (e ∷ events ++ past) ≤ most_objects) (sym same.object)
          (subst (λ (z : ℕ). next_object header (events ++ past) + z ≤ most_objects) (sym same.marks) before.few);
      homes = homes_next header outside e (events ++ past) (doing, cause_of header outside doing e (events ++ past) licensed.0.0) before.homes;
      settled = record { none_owed = none_owed_behind e (events ++ past) nobodys.0 none.0; shut = nobodys_shut (e ∷ events) past nobodys common.settled.shut };
      replied = nobody_replied e (events ++ past) nobodys.0 before.replied;
    }

-- what is no host's has its cause, and no region waits for its entry
caused : (header : Header) (outside : Outside) (doing : Command) (events past : List Event) → EachIn (IsAbroad header outside 0) events past
    → EachIn (λ e before. HasCause header outside e before × EntersNext e before) events past
caused header outside doing [] past each = tt
caused header outside doing (e ∷ events) past each = ((each.0.cause, each.0.enters), caused header outside doing events past each.1)

module _ (header : Header) (outside : Outside) (doing : Command) (hosts : HostTable) (events past : List Event) (all : AllRest header hosts past)
    (none : EachOf MakesNoControl events) (nobodys : EachOf IsNobodys events) (licensed : AllInTurn header outside doing events past) where
  abroad : (h : ℕ) → EachIn (IsAbroad header outside h) events past
  abroad h = nobodys_abroad header outside doing h events past nobodys licensed (common_all header hosts past all).settled.shut

  pub all_nobodys : AllRest header hosts (events ++ past)
  all_nobodys = record {
    ranged = all.ranged;
    count = all.count;
    rests = λ h k found.
        rests_abroad header outside h k hosts.ids events past all.sound (all.rests h k found) (abroad h) hosts.ids
        (common_more header outside doing hosts.ids events past none nobodys licensed (common_all header hosts past all));
    sound = sound_caused header outside events past all.sound (caused header outside doing events past (abroad 0));
    tasks = tasks_more (length header.frames.items) events past (makes_nothing (length header.frames.items) events nobodys) all.tasks;
    homes = homes_more (length header.frames.items) events past (makes_nothing (length header.frames.items) events nobodys) all.tasks all.homes;
  }

  pub queued_nobodys : AllQueued header hosts past → AllQueued header hosts (events ++ past)
  queued_nobodys queued h k found = queue_abroad header outside h k hosts.ids events past all.sound (all.rests h k found) (abroad h) (queued h k found)

-- behind a line and a refusal nothing has changed

pub all_lined : (header : Header) (outside : Outside) (doing : Command) (hosts : HostTable) (line : ℕ) (past : List Event) → AllRest header hosts past
    → AllRest header hosts (event.Line line ∷ past)
all_lined header outside doing hosts line past all =
    all_nobodys header outside doing hosts (event.Line line ∷ []) past all (tt, tt) (tt, tt)
    ((tt, behind_none (event.Line line) past (common_all header hosts past all).settled.none_owed), tt)

pub queued_lined : (header : Header) (outside : Outside) (doing : Command) (hosts : HostTable) (line : ℕ) (past : List Event) → AllRest header hosts past
    → AllQueued header hosts past → AllQueued header hosts (event.Line line ∷ past)
queued_lined header outside doing hosts line past all =
    queued_nobodys header outside doing hosts (event.Line line ∷ []) past all (tt, tt) (tt, tt)
    ((tt, behind_none (event.Line line) past (common_all header hosts past all).settled.none_owed), tt)

pub all_refused : (header : Header) (outside : Outside) (doing : Command) (hosts : HostTable) (code : Code) (past : List Event) → AllRest header hosts past
    → AllRest header hosts (event.Refused code ∷ past)
all_refused header outside doing hosts code past all =
    all_nobodys header outside doing hosts (event.Refused code ∷ []) past all (tt, tt) (tt, tt)
    ((tt, behind_none (event.Refused code) past (common_all header hosts past all).settled.none_owed), tt)

pub queued_refused : (header : Header) (outside : Outside) (doing : Command) (hosts : HostTable) (code : Code) (past : List Event) → AllRest header hosts past
    → AllQueued header hosts past → AllQueued header hosts (event.Refused code ∷ past)
queued_refused header outside doing hosts code past all =
    queued_nobodys header outside doing hosts (event.Refused code ∷ []) past all (tt, tt) (tt, tt)
    ((tt, behind_none (event.Refused code) past (common_all header hosts past all).settled.none_owed), tt)
