-- A run begins with nothing, is given the commands one after another, and stays legal as far as it goes.
use Rattle.std.proofs.Common.{List, None, Option, Some, [], ap, append_assoc, arith, drop, false, get_or, length, refl, reverse, slice_get, subst, sym, take}
use Rattle.std.proofs.Common.{true, ℕ, ◌++◌, ◌+◌, ◌-◌, ◌<◌, ◌∙◌, ◌∷◌, ◌≡◌, ◌≤◌}
use Rattle.std.specs.Prelude.{IfSome}
use Rattle.std.proofs.lemmas.List.Elements.{All-get_or}
use Rattle.std.proofs.lemmas.List.{take-append-drop, get_or-reverse, length-reverse}
use Rattle.std.proofs.lemmas.Option.{slice_get_within, get_or_from_slice_get}
use Rattle.vm_model.specs.declared.command.Numbered.{Numbered}
use Rattle.vm_model.specs.declared.script.Header.{Header}
use Rattle.vm_model.specs.declared.script.Script.{Script}
use Rattle.vm_model.specs.Ranges.{InRange}
use Rattle.vm_legal.specs.Debts.{IsPaid}
use Rattle.vm_legal.specs.Legal.{CanonicalFor}
use Rattle.vm_legal.specs.Outside.{Outside}
use Rattle.vm_legal.specs.Prompt.{EachLeads, NoneInVain}
use Rattle.vm_shared.proofs.Pages.{legal}
use Rattle.vm_legal.proofs.Serving.{one_served}
use Rattle.vm_top.specs.Run.{IsRunnable}
use Rattle.vm_top.specs.Writing.{oldest_items}
use Rattle.vm_legal.specs.InTurn.{AllRecalled}
use Rattle.vm_model.specs.Server.{Wanting}

some_frames : (frames : Option ℕ) → IfSome frames (λ count. 0 ≤ count)
some_frames None = tt
some_frames (Some count) = omega arith

-- nothing has happened
start_leads : (header : Header) (host : ℕ) → EachLeads header host []
start_leads header host task access waits on = let bad : None ≡ Some access = waits in absurd (cc)

start_waits : (header : Header) (host : ℕ) → NoneInVain header host []
start_waits header host task access waits on = let bad : None ≡ Some access = waits.waits in cc

-- nobody is to be recalled
start_recalled : (header : Header) → AllRecalled header []
start_recalled header object page host w shared is in_way = absurd (let bad : ◌≡◌ {A = Option Wanting} None (Some w) = is in cc)

start_paid : (header : Header) → IsPaid header []
start_paid header = record {
  none_owed = refl;
  init = λ host object control size paged is. absurd (nothing is);
  create = λ host object control size paged is. absurd (nothing is);
  request = λ host object control page access paged is. absurd (nothing is);
  error = λ host object page is. absurd (nothing is);
  absence = λ host object page declared is. absurd (nothing is);
  lock = λ request is. absurd (nothing is);
  change = λ request is wanted. absurd (nothing is);
  destroy = λ host object wild is. absurd (nothing is);
  slot = λ host object control page dirty keep bytes temporary is lacks. absurd (nothing is);
}
  where
    nothing : {A : Type 0} {x : A} → None ≡ Some x → ⊥
    nothing is = cc

pub legal_start : (header : Header) (outside : Outside) → CanonicalFor header outside [] []
legal_start header outside = record {
  follows = refl;
  holds = record {
    own_bytes = tt;
    flat_bytes = tt;
    frames = λ host. some_frames (slice_get (reverse header.frames.items) host);
    prompt = tt;
    paid = tt;
    served = tt;
    one_writer = λ writer reader object page shared apart can. absurd (let bad : false ≡ true = can.here in cc);
    pages = λ object page shared. legal header outside [] tt tt object page shared;
  };
  rests = record {
    prompt =
        λ host below. record {
          leads = start_leads header host;
          waits = start_waits header host;
          swept = record {
            pages = λ object page temporary away. refl;
            controls = λ object temporary away. refl;
            declared_pages = λ object page below unheld. refl;
            declared_controls = λ object below unheld. refl;
          };
          thin = λ upper lower pair. absurd (let bad : false ≡ true = pair.backed in cc);
        };
    paid = start_paid header;
    served = λ object page shared some. absurd (some refl);
  };
  ended = tt;
  last =
      record {
        ended = λ host object page is. absurd (nothing is);
        served = one_served header 0 [] [] tt tt tt tt;
        awake = λ host below task comes. absurd (nothing comes.waits.waits);
      };
  recalled = tt;
  recalls = start_recalled header;
}
  where
    nothing : {A : Type 0} {x : A} → None ≡ Some x → ⊥
    nothing is = cc

drop_whole : {A : Type 0} (items : List A) → drop (length items) items ≡ []
drop_whole [] = refl
drop_whole (x ∷ items) = drop_whole items

pub oldest_none : {A : Type 0} (items : List A) → oldest_items 0 items ≡ []
oldest_none items = let whole : length items - 0 ≡ length items = omega arith in ap (λ z. drop z items) whole ∙ drop_whole items

-- the commands, one after another
pub range_at : (script : Script) (i : ℕ) (n : Numbered) → IsRunnable script → slice_get (reverse script.commands.items) i ≡ Some n
    → InRange script.header n.command
range_at script i n runs found =
    let items = script.commands.items in
    let inside = slice_get_within (reverse items) i n found in
    let below : i < length items = omega (arith, length-reverse items) in
    let here : get_or items (length items - 1 - i) n ≡ n = sym (get_or-reverse items i n below) ∙ get_or_from_slice_get (reverse items) i n n found in
    let P : Numbered → Type 0 = λ z. InRange script.header z.command in
    subst P here (All-get_or P items (length items - 1 - i) n (omega arith) runs.ranges)

-- the commands behind so many
pub order_at : {A : Type 0} (items : List A) (i : ℕ) → items ≡ take (length items - i) items ++ oldest_items i items
order_at items i = sym (take-append-drop (length items - i) items)

pub order_next : {A : Type 0} (items : List A) (i : ℕ) (n : A) → oldest_items (i + 1) items ≡ n ∷ oldest_items i items
    → items ≡ take (length items - (i + 1)) items ++ n ∷ oldest_items i items
order_next items i n next = order_at items (i + 1) ∙ ap (λ z. take (length items - (i + 1)) items ++ z) next

-- the same, with the command among those that are left
pub order_left : {A : Type 0} (items : List A) (i : ℕ) (n : A) → oldest_items (i + 1) items ≡ n ∷ oldest_items i items
    → items ≡ (take (length items - (i + 1)) items ++ n ∷ []) ++ oldest_items i items
order_left items i n next = order_next items i n next ∙ sym (append_assoc (take (length items - (i + 1)) items) (n ∷ []) (oldest_items i items))
