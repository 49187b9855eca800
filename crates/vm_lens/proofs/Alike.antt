-- Memory depends on nothing of a header but its page size and its objects, and on nothing of the outside but what it tells.
use Rattle.std.proofs.Common.{Bool, List, [], ap, false, length, refl, reverse, subst, sym, ℕ, ◌*◌, ◌%◌, ◌++◌, ◌+◌, ◌==◌, ◌∙◌, ◌∷◌, ◌≡◌}
use Rattle.std.specs.Prelude.{if◌then◌else◌, None, Option, true, replicate, ◌&&◌, Some, nat_lt, slice_get, not, ◌||◌}
use Rattle.vm_base.specs.Entries.{entry_at}
use Rattle.vm_base.specs.Pages.{little_endian_bytes, with_bytes}
use Rattle.vm_model.specs.Bytes.{number_at}
use Rattle.vm_model.specs.Moments.{EachEvent}
use Rattle.vm_model.specs.Tasks.{entries_of}
use Rattle.vm_model.specs.Waiting.{Access, Loading, Storing, waiting}
use Rattle.vm_model.specs.declared.event.Event.{Event}
use Rattle.vm_model.specs.declared.event.Event.TheVariants as event
use Rattle.vm_model.specs.declared.message.Channel.TheVariants.{Down}
use Rattle.vm_model.specs.declared.script.Declared.{Declared}
use Rattle.vm_model.specs.declared.script.Header.{Header}
use Rattle.vm_legal.specs.Flat.{made_over}
use Rattle.vm_legal.specs.Outside.{FilesAtStart, Outside, Told, are_untold, is_file, is_file_kept, is_from_told, is_private_from, is_said, is_shared}
use Rattle.vm_legal.specs.Outside.{is_shared_kind, kind_in, start_in}
use Rattle.vm_legal.specs.Outside.{start_page, zeros}
use Rattle.vm_order.specs.OneMemory.{EndsAccess, IsOneAtATime, IsOneMemory, LoadsRead, is_read}
use Rattle.vm_order.specs.Operations.{Copy, CopyPage, Load, Make, Operation, Say, Store, copied_from, load_ends, memory, operations, page_copied, store_ends}
use Rattle.vm_outside.specs.Areas.{read_at}
use Rattle.vm_free.proofs.Follows.{unsaid}
use Rattle.vm_lens.specs.Exploring.{IsFresh, fresh}

-- whether loads of a region read what was done, by the file from which it comes
abbrev reads_from : Header → Outside → ℕ → Option ℕ → Bool
reads_from header outside region from = is_private_from header outside region from || is_shared header region

-- all that memory depends on is the same
record AreAlike (a b : Header) (there here : Outside) : Type 0 where
  pub size : a.size ≡ b.size
  pub file : (region : ℕ) → is_file a region ≡ is_file b region
  pub flat : (region : ℕ) (from : Option ℕ) → reads_from a there region from ≡ reads_from b here region from
  pub start : (region page : ℕ) → start_page a there region page ≡ start_page b here region page
  pub unsaid : (object : ℕ) → is_said a there object ≡ false
  pub unsaid_too : (object : ℕ) → is_said b here object ≡ false

operations_alike : (a b : Header) (there here : Outside) → AreAlike a b there here → (history : List Event)
    → operations a there history ≡ operations b here history
operations_alike a b there here same [] = refl
operations_alike a b there here same (event.Loaded task object page value ∷ past) =
    ap (λ z. load_ends z task.0 value (entries_of z task.0 past) (waiting task.0 past) ++ operations a there past) same.size
    ∙ ap (λ z. load_ends b.size task.0 value (entries_of b.size task.0 past) (waiting task.0 past) ++ z) (operations_alike a b there here same past)
operations_alike a b there here same (event.Stored task object page at bytes value ∷ past) =
    ap (λ z. store_ends z task.0 (entries_of z task.0 past) (waiting task.0 past) ++ operations a there past) same.size
    ∙ ap (λ z. store_ends b.size task.0 (entries_of b.size task.0 past) (waiting task.0 past) ++ z) (operations_alike a b there here same past)
operations_alike a b there here same (event.RegionMade region object pages ∷ past) = ap (λ z. Make region.0 ∷ z) (operations_alike a b there here same past)
operations_alike a b there here same (event.RegionCopied region source offset pages ∷ past) =
    ap (λ z. Copy region.0 source.0 offset ∷ z) (operations_alike a b there here same past)
operations_alike a b there here same (event.Delayed region source offset pages copy ∷ past) =
    ap (λ z. Copy region.0 source.0 offset ∷ z) (operations_alike a b there here same past)
operations_alike a b there here same (event.CopiedPage task page object object_page target ∷ past) =
    ap (λ z. page_copied (made_over target.0 past) page.0 object.0 object_page.0 ++ z) (operations_alike a b there here same past)
operations_alike a b there here same (event.Sent (Down host object control) m ∷ past) =
    unsaid a (is_said a there object.0) object.0 m (operations a there past) (same.unsaid object.0)
    ∙ (operations_alike a b there here same past
    ∙ sym (unsaid b (is_said b here object.0) object.0 m (operations b here past) (same.unsaid_too object.0)))
operations_alike a b there here same (e ∷ past) = operations_alike a b there here same past

start_alike : (a b : Header) (there here : Outside) → AreAlike a b there here → (region page : ℕ)
    → (if is_file a region then start_page a there region page else zeros a) ≡ (if is_file b region then start_page b here region page else zeros b)
start_alike a b there here same region page =
    ap (λ z. if z then start_page a there region page else zeros a) (same.file region)
    ∙ (ap (λ z. if is_file b region then z else zeros a) (same.start region page)
    ∙ ap (λ z. if is_file b region then start_page b here region page else replicate z 0) same.size)

memory_alike : (a b : Header) (there here : Outside) → AreAlike a b there here → (done : List Operation) (region page : ℕ)
    → memory a there done region page ≡ memory b here done region page
memory_alike a b there here same [] region page = start_alike a b there here same region page
memory_alike a b there here same (Load task r p address bytes value ∷ past) region page = memory_alike a b there here same past region page
memory_alike a b there here same (Store task r p address bytes value ∷ past) region page =
    ap (λ z. if region == r && page == p then with_bytes (address % z) (little_endian_bytes bytes value) (memory a there past region page) else memory a there
    past region page) same.size
    ∙ ap (λ z. if region == r && page == p then with_bytes (address % b.size) (little_endian_bytes bytes value) z else z)
    (memory_alike a b there here same past region page)
memory_alike a b there here same (Make r ∷ past) region page =
    ap (λ z. if region == r then replicate z 0 else memory a there past region page) same.size
    ∙ ap (λ z. if region == r then zeros b else z) (memory_alike a b there here same past region page)
memory_alike a b there here same (Copy r source offset ∷ past) region page =
    ap (λ z. if region == r then z else memory a there past region page) (memory_alike a b there here same past source (offset + page))
    ∙ ap (λ z. if region == r then memory b here past source (offset + page) else z) (memory_alike a b there here same past region page)
memory_alike a b there here same (CopyPage r p source source_page ∷ past) region page =
    ap (λ z. if region == r && page == p then z else memory a there past region page) (memory_alike a b there here same past source source_page)
    ∙ ap (λ z. if region == r && page == p then memory b here past source source_page else z) (memory_alike a b there here same past region page)
memory_alike a b there here same (Say r p bytes ∷ past) region page =
    ap (λ z. if region == r && page == p then bytes else z) (memory_alike a b there here same past region page)

from_alike : (a b : Header) → ((region : ℕ) → is_file a region ≡ is_file b region) → (region : ℕ) (done : List Operation)
    → copied_from a region done ≡ copied_from b region done
from_alike a b file region [] = refl
from_alike a b file region (Copy new source offset ∷ past) =
    ap (λ z. if region == new then (if z then Some source else copied_from a source past) else copied_from a region past) (file source)
    ∙ (ap (λ z. if region == new then (if is_file b source then Some source else z) else copied_from a region past) (from_alike a b file source past)
    ∙ ap (λ z. if region == new then (if is_file b source then Some source else copied_from b source past) else z) (from_alike a b file region past))
from_alike a b file region (other ∷ past) = from_alike a b file region past

read_alike : (a b : Header) (there here : Outside) → AreAlike a b there here → (region : ℕ) (done : List Operation)
    → is_read a there region done ≡ is_read b here region done
read_alike a b there here same region done =
    ap (λ z. reads_from a there region z) (from_alike a b same.file region done) ∙ same.flat region (copied_from b region done)

reads_alike : (a b : Header) (there here : Outside) → AreAlike a b there here → (done : List Operation) → LoadsRead a there done → LoadsRead b here done
reads_alike a b there here same [] reads = tt
reads_alike a b there here same (Load task region page address bytes value ∷ past) reads = (
  λ flat. reads.0 (read_alike a b there here same region past ∙ flat)
      ∙ (ap (λ z. number_at z a.size address bytes) (memory_alike a b there here same past region page)
      ∙ ap (λ z. number_at (memory b here past region page) z address bytes) same.size),
  reads_alike a b there here same past reads.1,
)
reads_alike a b there here same (other ∷ past) reads = reads_alike a b there here same past reads

ends_alike : (a b : Header) (task address : ℕ) (access : Access) (past : List Event) → a.size ≡ b.size → EndsAccess a task address access past
    → EndsAccess b task address access past
ends_alike a b task address access past size ends = record {
  waits = ends.waits;
  entry = ends.entry;
  found = subst (λ z. entry_at address (entries_of z task past) ≡ Some ends.entry) size ends.found;
}

turn_alike : (a b : Header) → a.size ≡ b.size → (e : Event) (past : List Event) → IsOneAtATime a e past → IsOneAtATime b e past
turn_alike a b size (event.BegunLoad task address bytes) past turn = turn
turn_alike a b size (event.BegunStore task address bytes value) past turn = turn
turn_alike a b size (event.BegunCopy task address bytes to) past turn = turn
turn_alike a b size (event.Loaded task object page value) past turn = (turn.0, turn.1, ends_alike a b task.0 turn.0 (Loading turn.0 turn.1) past size turn.2)
turn_alike a b size (event.Stored task object page at bytes value) past turn =
    (turn.0, ends_alike a b task.0 turn.0 (Storing turn.0 bytes value) past size turn.1)
turn_alike a b size other past turn = tt

turns_alike : (a b : Header) → a.size ≡ b.size → (history : List Event) → EachEvent (IsOneAtATime a) history → EachEvent (IsOneAtATime b) history
turns_alike a b size [] turns = tt
turns_alike a b size (e ∷ past) turns = (turn_alike a b size e past turns.0, turns_alike a b size past turns.1)

one_alike : (a b : Header) (there here : Outside) → AreAlike a b there here → (history : List Event) → IsOneMemory a there history → IsOneMemory b here history
one_alike a b there here same history one = record {
  reads =
      subst (λ z. LoadsRead b here z) (operations_alike a b there here same history) (reads_alike a b there here same (operations a there history) one.reads);
  tasks = turns_alike a b same.size history one.tasks;
}

-- of these objects, those that are files
abbrev file_among : List Declared → ℕ → Bool
file_among objects region = nat_lt region (length objects) && is_file_kept (slice_get (reverse objects) region)

-- of these, those of which the flat map speaks
abbrev flat_among : List Declared → Bool → ℕ → Bool
flat_among objects paging region =
    ((not (nat_lt region (length objects)) && paging) || (nat_lt region (length objects) && is_file_kept (slice_get (reverse objects) region)))
    || is_shared_kind (if nat_lt region (length objects) then kind_in (slice_get (reverse objects) region) else kind_in None)

told_from : (header : Header) (outside : Outside) → ((object : ℕ) → is_said header outside object ≡ false) → (from : Option ℕ)
    → is_from_told header outside from ≡ true
told_from header outside unsaid None = refl
told_from header outside unsaid (Some file) = ap not (unsaid file)

told_says_nothing : (header : Header) (files : FilesAtStart) (pages : ℕ → ℕ → List ℕ) (object : ℕ) → files ≡ Told pages
    → (are_untold files && is_file header object) ≡ false
told_says_nothing header files pages object told = ap (λ z. are_untold z && is_file header object) told

are_alike : (a b : Header) (there here : Outside) → a.size ≡ b.size → a.objects.items ≡ b.objects.items → IsFresh a there → IsFresh b here
    → AreAlike a b there here
are_alike a b there here size objects told told_too = record {
  size = size;
  file = λ region. ap (λ z. file_among z region) objects;
  flat = λ region from.
      ap (λ z. flat_among a.objects.items (there.paging && z) region)
      (told_from a there (λ object. told_says_nothing a there.files told.pages object told.files) from)
      ∙ (ap (λ z. flat_among z (there.paging && true) region) objects
      ∙ (ap (λ z. flat_among b.objects.items (z && true) region) (told.paging ∙ sym told_too.paging)
      ∙ ap (λ z. flat_among b.objects.items (here.paging && z) region)
      (sym (told_from b here (λ object. told_says_nothing b here.files told_too.pages object told_too.files) from))));
  start = λ region page.
      ap (λ z. start_in a z region page) told.files
      ∙ (told.empty region page
      ∙ (ap (λ z. read_at [] (page * z) z) size
      ∙ (sym (told_too.empty region page) ∙ sym (ap (λ z. start_in b z region page) told_too.files))));
  unsaid = λ object. told_says_nothing a there.files told.pages object told.files;
  unsaid_too = λ object. told_says_nothing b here.files told_too.pages object told_too.files;
}

pub fresh_is_fresh : (header : Header) → IsFresh header (fresh header)
fresh_is_fresh header = record { pages = λ object page. read_at [] (page * header.size) header.size; files = refl; empty = λ object page. refl; paging = refl }

-- where two headers have the same page size and the same objects, and all is told and empty, memory is one under both or neither
pub one_memory_alike : (a b : Header) (there here : Outside) → a.size ≡ b.size → a.objects.items ≡ b.objects.items → IsFresh a there → IsFresh b here
    → (history : List Event)
    → IsOneMemory a there history → IsOneMemory b here history
one_memory_alike a b there here size objects told told_too history one =
    one_alike a b there here (are_alike a b there here size objects told told_too) history one
