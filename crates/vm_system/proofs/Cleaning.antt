-- What a file's pager says for a clean, and of whether the file stays.
use Rattle.vm_system.proofs.Common.{AllInner, AllInTurn, Bool, CanTellAll, CleanEvents, Command, EachIn, EachOf, Event, FileTable, FramesSuffice, Header}
use Rattle.vm_system.proofs.Common.{IsKnownAs, IsNobodys, IsOrderly, Known, KnownControl, List, MakesNoControl, MomentsIn, None, ObjectId, Option, Outside}
use Rattle.vm_system.proofs.Common.{OwnBytes, PageNo, Some, State, SystemStands, [], ap, arith, clean_head, false, head, home_for, inl, inr, is_file, is_made}
use Rattle.vm_system.proofs.Common.{is_paged, known_below, known_control, length, nat_lt, none-some, not, or_known, refl, reverse, same_Some, slice_get, subst}
use Rattle.vm_system.proofs.Common.{suc, sym, true, up, zero, ℕ, ◌++◌, ◌<◌, ◌||◌, ◌∙◌, ◌∷◌, ◌≡◌, ◌≤◌, ◌⊎◌, refusal, code_where, declared_pages, ◌==◌, ◌+◌}
use Rattle.vm_base.specs.declared.code.Code.TheVariants as code
use Rattle.vm_legal.proofs.Served.{paged_sends}
use Rattle.vm_legal.proofs.Unshared.{file_unshared}
use Rattle.sms_server.specs.Stands.{IsOther as IsServerOther}
use Rattle.vm_model.specs.declared.command.Command.TheVariants as command
use Rattle.vm_model.specs.declared.event.Event.TheVariants as event
use Rattle.vm_model.specs.declared.message.Message.TheVariants as message
use Rattle.vm_system.proofs.Agreeing.{IsSpared}
use Rattle.vm_flat.proofs.Voids.{file_paged}
use Rattle.pg_file.specs.Answers.{CacheEvents}
use Rattle.vm_legal.specs.Follows.{cache_head}
use Rattle.vm_system.proofs.Sayings.{orderly_cached, orderly_cleaned}

-- the pager of an object knows the control that it knew in front of a line
pub known_line : (n o line : ℕ) (h : List Event) → known_below n o (event.Line line ∷ h) ≡ known_below n o h
known_line zero o line h = refl
known_line (suc n) o line h = ap (λ z. or_known z n (known_control n o h)) (known_line n o line h)

-- the controls of an object that its pager knows on the first hosts

below_none : (n o : ℕ) (past : List Event) → ((g : ℕ) → g < n → known_control g o past ≡ None) → known_below n o past ≡ None
below_none zero o past none = refl
below_none (suc n) o past none = rw (below_none n o past (λ g below. none g (omega (arith, below))), none n (omega arith)) refl

none_fewer : (n o host g : ℕ) (past : List Event) → ((a k : ℕ) → known_control a o past ≡ Some k → a ≡ host) → n ≡ host → g < n → (x : Option ℕ)
    → known_control g o past ≡ x → known_control g o past ≡ None
none_fewer n o host g past one end less None none = none
none_fewer n o host g past one end less (Some k) some = absurd (let same = one g k some in omega (arith, less, end, same))

below_some : (n o host control : ℕ) (past : List Event) → known_control host o past ≡ Some control → ((g k : ℕ) → known_control g o past ≡ Some k → g ≡ host)
    → host < n
    → known_below n o past ≡ Some (record { host = host; control = control })
below_some zero o host control past is one below = absurd (omega (arith, below))
below_some (suc n) o host control past is one below = by (below_some n o host control past is one) (grind (arith, below))
  where
    by : (host < n → known_below n o past ≡ Some (record { host = host; control = control })) → (host < n) ⊎ (n ≡ host)
        → known_below (suc n) o past ≡ Some (record { host = host; control = control })
    by before (inl less) = rw (before less) refl
    by before (inr end) =
        let there : known_control n o past ≡ Some control = subst (λ (m : ℕ). known_control m o past ≡ Some control) (sym end) is in
        rw (below_none n o past (λ g less. none_fewer n o host g past one end less (known_control g o past) refl), there)
        (ap (λ (m : ℕ). Some (record { host = m; control = control })) end)

-- it lives on one of them
abbrev IsThere : ℕ → ℕ → List Event → Known → Type 0
IsThere n o past known = (known_control known.host o past ≡ Some known.control) × (known.host < n)

known_there : (n o : ℕ) (past : List Event) (known : Known) → known_below n o past ≡ Some known → IsThere n o past known
known_there zero o past known is = absurd (let bad : None ≡ Some known = is in cc)
known_there (suc n) o past known is = one (known_there n o past known) (known_below n o past) (known_control n o past) refl refl is
  where
    one : (known_below n o past ≡ Some known → IsThere n o past known) → (x : Option Known) (y : Option ℕ) → known_below n o past ≡ x
        → known_control n o past ≡ y → or_known x n y ≡ Some known → IsThere (suc n) o past known
    one before (Some k) y first now both = let more = before (first ∙ both) in let less = more.1 in (more.0, omega (arith, less))
    one before None None first now both = absurd (let bad : None ≡ Some known = both in cc)
    one before None (Some control) first now both =
        subst (IsThere (suc n) o past) (same_Some (record { host = n; control = control }) known both) (now, omega arith)

-- the control that a file's pager knows is the only one, and that of which the head of a clean speaks

known_home : (header : Header) (h o k : ℕ) (past : List Event) → IsOrderly header past → is_paged header o ≡ true → known_control h o past ≡ Some k
    → home_for header o past ≡ Some h
known_home header h o k past orderly paged at = by (is_made (up h o) past) refl
  where
    by : (b : Bool) → is_made (up h o) past ≡ b → home_for header o past ≡ Some h
    by true made = (orderly.home h o).made paged made
    by false none = absurd (none-some k (sym ((orderly.made h o).unknown none) ∙ at))

abbrev known_of : Option KnownControl → Option Known
known_of None = None
known_of (Some known) = Some (record { host = known.host.0; control = known.control })

known_tie : (header : Header) (o : ℕ) (known : Option KnownControl) (past : List Event) → IsOrderly header past → is_paged header o ≡ true
    → IsKnownAs o known past → known_below (length header.frames.items) o past ≡ known_of known
known_tie header o None past orderly paged is = below_none (length header.frames.items) o past (λ g below. is g)
known_tie header o (Some known) past orderly paged is = below_some (length header.frames.items) o known.host.0 known.control past is
    (λ g k at. same_Some g known.host.0 (sym (known_home header g o k past orderly paged at)
    ∙ known_home header known.host.0 o known.control past orderly paged is)) (orderly.known known.host.0 o known.control is)

head_events : (object : ObjectId) (page : PageNo) (count : ℕ) (flush : Bool) (known : Option KnownControl) (events : List Event)
    → CleanEvents known object.0 page count flush events → clean_head object page count flush (known_of known) ≡ events
head_events object page count flush None events is = sym is
head_events object page count flush (Some known) events is = sym is

stay_events : (object : ObjectId) (cache : Bool) (known : Option KnownControl) (events : List Event) → CacheEvents known object.0 cache events
    → cache_head object cache (known_of known) ≡ events
stay_events object cache None events is = sym is
stay_events object cache (Some known) events is = sym is

-- behind a line the pager of a file knows the same control
file_knows : (header : Header) (outside : Outside) (s : State) (object : ObjectId) (line : ℕ) (pager : FileTable) → SystemStands header outside s
    → is_file header object.0 ≡ true → slice_get s.files.items object.0 ≡ Some pager
    → known_below (length header.frames.items) object.0 (event.Line line ∷ s.history.items) ≡ known_of pager.known
file_knows header outside s object line pager stands file at =
    known_line (length header.frames.items) object.0 line s.history.items
    ∙ known_tie header object.0 pager.known s.history.items stands.agrees.orderly (file_paged header object.0 file)
    (stands.agrees.files.stand object.0 pager file at).known_is

pub asked_is : (header : Header) (outside : Outside) (s : State) (object : ObjectId) (page : PageNo) (count : ℕ) (flush : Bool) (line : ℕ) (pager : FileTable)
    (events : List Event) → SystemStands header outside s → is_file header object.0 ≡ true
    → slice_get s.files.items object.0 ≡ Some pager → CleanEvents pager.known pager.object page count flush events
    → head header (event.Line line ∷ s.history.items) (command.Clean object page count flush) ≡ Some events
asked_is header outside s object page count flush line pager events stands file at says =
    let its = stands.agrees.files.stand object.0 pager file at in
    let own : CleanEvents pager.known object.0 page count flush events = subst (λ (o : ℕ). CleanEvents pager.known o page count flush events) its.object_is
    says in
    ap (λ (z : Option Known). Some (clean_head object page count flush z)) (file_knows header outside s object line pager stands file at)
    ∙ ap (λ (z : List Event). Some z) (head_events object page count flush pager.known events own)

pub stay_is : (header : Header) (outside : Outside) (s : State) (object : ObjectId) (cache : Bool) (line : ℕ) (pager : FileTable) (events : List Event)
    → SystemStands header outside s → is_file header object.0 ≡ true → slice_get s.files.items object.0 ≡ Some pager
    → CacheEvents pager.known pager.object cache events
    → head header (event.Line line ∷ s.history.items) (command.Cache object cache) ≡ Some events
stay_is header outside s object cache line pager events stands file at says =
    let its = stands.agrees.files.stand object.0 pager file at in
    let own : CacheEvents pager.known object.0 cache events = subst (λ (o : ℕ). CacheEvents pager.known o cache events) its.object_is says in
    ap (λ (z : Option Known). Some (cache_head object cache z)) (file_knows header outside s object line pager stands file at)
    ∙ ap (λ (z : List Event). Some z) (stay_events object cache pager.known events own)

-- what is asked behind a line has its cause, is no host's, and can be told
pub record IsAsked (header : Header) (outside : Outside) (doing : Command) (past asked : List Event) : Type 0 where
  pub back : reverse asked ≡ asked
  pub licensed : AllInTurn header outside doing asked past
  pub own_bytes : EachIn (OwnBytes header) asked past
  pub frames : FramesSuffice header past → MomentsIn (FramesSuffice header) asked past
  pub inner : AllInner asked
  pub nobodys : EachOf IsNobodys asked
  pub controls : EachOf MakesNoControl asked
  pub spared : EachOf IsSpared asked
  pub silent : EachOf (IsServerOther header) asked
  pub orderly : IsOrderly header past → IsOrderly header (asked ++ past)
  pub can : IsOrderly header past → CanTellAll header.size asked past

pub asked_none : (header : Header) (outside : Outside) (doing : Command) (past : List Event) → IsAsked header outside doing past []
asked_none header outside doing past =
    record {
      back = refl;
      licensed = tt;
      own_bytes = tt;
      frames = λ now. tt;
      inner = tt;
      nobodys = tt;
      controls = tt;
      spared = tt;
      silent = tt;
      orderly = λ orderly. orderly;
      can = λ orderly. tt;
    }

pub asked_one : (header : Header) (outside : Outside) (object : ObjectId) (page : PageNo) (count : ℕ) (flush : Bool) (line : ℕ) (h : List Event)
    (known : Option Known) → is_file header object.0 ≡ true
    → known_below (length header.frames.items) object.0 h ≡ known
    → IsAsked header outside (command.Clean object page count flush) (event.Line line ∷ h) (clean_head object page count flush known)
asked_one header outside object page count flush line h None file is = asked_none header outside (command.Clean object page count flush) (event.Line line ∷ h)
asked_one header outside object page count flush line h (Some known) file is =
    let there = known_there (length header.frames.items) object.0 h known is in
    record {
      back = refl;
      licensed = (
        (
          paged_sends header outside (command.Clean object page count flush) known.host object.0 known.control (message.Lock page count 2 flush 8 true)
              (event.Line line ∷ h) (file_paged header object.0 file)
              (file, refl, refl, refl, there.0, (refl, refl, refl, refl), refl),
          tt,
        ),
        tt,
      );
      own_bytes = (tt, tt);
      frames = λ now. (now, tt);
      inner = (tt, tt);
      nobodys = (tt, tt);
      controls = (tt, tt);
      spared = (tt, tt);
      silent = (file_unshared header object.0 file, tt);
      orderly =
          λ orderly. orderly_cleaned header known.host object known.control page count flush (event.Line line ∷ h) orderly there.1
          (file_unshared header object.0 file);
      can = λ orderly. ((tt, (orderly.made known.host object.0).known known.control there.0), tt);
    }

pub asked_stay : (header : Header) (outside : Outside) (object : ObjectId) (cache : Bool) (line : ℕ) (h : List Event) (known : Option Known)
    → is_file header object.0 ≡ true → known_below (length header.frames.items) object.0 h ≡ known
    → IsAsked header outside (command.Cache object cache) (event.Line line ∷ h) (cache_head object cache known)
asked_stay header outside object cache line h None file is = asked_none header outside (command.Cache object cache) (event.Line line ∷ h)
asked_stay header outside object cache line h (Some known) file is =
    let there = known_there (length header.frames.items) object.0 h known is in
    record {
      back = refl;
      licensed = (
        (
          paged_sends header outside (command.Cache object cache) known.host object.0 known.control (message.Attributes cache 2 true) (event.Line line ∷ h)
              (file_paged header object.0 file) (file, refl, refl, there.0, (refl, refl), refl),
          tt,
        ),
        tt,
      );
      own_bytes = (tt, tt);
      frames = λ now. (now, tt);
      inner = (tt, tt);
      nobodys = (tt, tt);
      controls = (tt, tt);
      spared = (tt, tt);
      silent = (file_unshared header object.0 file, tt);
      orderly =
          λ orderly. orderly_cached header known.host object known.control cache (event.Line line ∷ h) orderly there.1 (file_unshared header object.0 file);
      can = λ orderly. ((tt, (orderly.made known.host object.0).known known.control there.0), tt);
    }

-- what is cleaned is a file
pub cleaned_file : (header : Header) (past : List Event) (object : ObjectId) (page : PageNo) (count : ℕ) (flush : Bool)
    → refusal header past (command.Clean object page count flush) ≡ None → is_file header object.0 ≡ true
cleaned_file header past object page count flush accepted =
    by (is_file header object.0) (count == 0 || nat_lt (declared_pages header object.0) (page.0 + count)) accepted
  where
    by : (b c : Bool) → code_where (not b || c) code.InvalidArgument None ≡ None → b ≡ true
    by true c accepted = refl
    by false c accepted = absurd (let bad : Some code.InvalidArgument ≡ None = accepted in cc)

-- and so is what stays or goes
pub cached_file : (header : Header) (past : List Event) (object : ObjectId) (cache : Bool) → refusal header past (command.Cache object cache) ≡ None
    → is_file header object.0 ≡ true
cached_file header past object cache accepted = by (is_file header object.0) accepted
  where
    by : (b : Bool) → code_where (not b) code.InvalidArgument None ≡ None → b ≡ true
    by true accepted = refl
    by false accepted = absurd (let bad : Some code.InvalidArgument ≡ None = accepted in cc)

-- what is asked is one event at most

pub clean_few : (known : Option KnownControl) (object : ℕ) (page : PageNo) (count : ℕ) (flush : Bool) (events : List Event)
    → CleanEvents known object page count flush events → length events ≤ 1
clean_few None object page count flush events is = rw is (omega arith)
clean_few (Some control) object page count flush events is = rw is (omega arith)

pub stay_few : (known : Option KnownControl) (object : ℕ) (cache : Bool) (events : List Event) → CacheEvents known object cache events → length events ≤ 1
stay_few None object cache events is = rw is (omega arith)
stay_few (Some control) object cache events is = rw is (omega arith)
