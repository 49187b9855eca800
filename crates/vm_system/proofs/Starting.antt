-- A new system stands for the empty history.
use Rattle.vm_system.proofs.Common.{AllFilesServe, AllQueued, AllRest, AllServe, AllTold, AreEmpty, AreNumbered, Content, FileTable, FilesAreKept, FilesAreTold}
use Rattle.vm_system.proofs.Common.{FilesCarry, Header, IsServable, List, None, Outside, PagerStands, PagingIsKept, Posts, SlotTable, SlotsFit, Some, State}
use Rattle.vm_system.proofs.Common.{SystemStands, Told, [], ap, arith, content_of, empty, inl, inr, length, length-append, name_of, named, none-some, refl}
use Rattle.vm_system.proofs.Common.{reverse, same_Some, slice_get, start, subst, suc, sym, take, true, zero, ℕ, ◌++◌, ◌+◌, ◌∙◌, ◌∷◌, ◌≡◌, ◌⊎◌}
use Rattle.pg_file.proofs.Carrying.{empty as file_empty}
use Rattle.pg_file.proofs.Standing.{start as file_start}
use Rattle.pg_file.specs.Stands.{PagerStands as FileStands, new_table}
use Rattle.pg_slots.specs.Contents.{Kept as Stored}
use Rattle.vm_model.specs.declared.script.Declared.{Declared}
use Rattle.sms_server.specs.Stands.{IsNewServer}
use Rattle.sms_server.proofs.Starting.{server_start}
use Rattle.vm_system.proofs.Sharing.{served_start}
use Rattle.vm_system.proofs.Letters.{orderly_none}
use Rattle.vm_system.proofs.Silent.{paid_start}
use Rattle.sms_server.proofs.Starting.{start_recalled as recalled_start}

-- a system to which nothing has happened
pub record IsNew (header : Header) (s : State) : Type 0 where
  pub built : IsServable header
  pub size : s.size ≡ header.size
  pub rests : AllRest header s.hosts []
  pub queues : AllQueued header s.hosts []
  pub numbered : AreNumbered header s.pagers.items
  pub empty : AreEmpty header s.pagers.items
  pub files : AllFilesServe header s.files.items []
  pub declared : s.declared.items ≡ reverse header.objects.items
  pub server : IsNewServer header s.server
  pub channels : s.ports.channels ≡ 0
  pub letters : s.ports.letters ≡ []
  pub made : s.channels.made ≡ []
  pub buffers : s.buffers ≡ record { size = s.size; count = 0 }
  pub history : s.history.items ≡ []
  pub log : s.log.items ≡ []

new_posts : (header : Header) (s : State) → IsNew header s → Posts s s.history.items
new_posts header s new = record {
  channels = λ c. rw (new.made, new.history) refl;
  count = rw (new.made, new.channels) refl;
  letters = rw (new.letters, new.history) tt;
  pages = rw new.history tt;
  buffers = rw new.buffers refl;
}

new_serve : (header : Header) (s : State) → IsNew header s → AllServe header s.pagers.items []
new_serve header s new =
    record { numbered = new.numbered; stand = λ h pager at. subst (λ (z : SlotTable). PagerStands header h z []) (sym (new.empty h pager at)) (start header h) }

pub new_stands : (header : Header) (outside : Outside) (s : State) → IsNew header s → SystemStands header outside s
new_stands header outside s new = record {
  built = new.built;
  rests = rw new.history new.rests;
  queues = rw new.history new.queues;
  agrees = record {
    size = new.size;
    declared = new.declared;
    pagers = rw new.history (new_serve header s new);
    files = rw new.history new.files;
    server = rw new.history (server_start header s.server new.server);
    posts = new_posts header s new;
    orderly = rw new.history (orderly_none header);
    lawful = rw new.history (record { causes = tt; own_bytes = tt; paid = tt });
  };
  paid = rw new.history (paid_start header);
  served = rw new.history (served_start header);
  recalled = rw new.history (recalled_start header);
  log = new.log;
}

-- an empty table fits where nothing was stored
empty_fits : (header : Header) (h : ℕ) (pager : SlotTable) (areas : List ℕ → Told)
    → pager ≡ record { host = h; size = header.size; count = header.slots; rows = [] } → SlotsFit areas pager (λ o p. None)
empty_fits header h pager areas is = subst (λ (z : SlotTable). SlotsFit areas z (λ o p. None)) (sym is) (record {
  agrees = record { at = λ o p. tt };
  bytes = λ o p s bytes held none. absurd (let bad : None ≡ Some (Stored bytes) = none in cc);
})

pub new_kept : (header : Header) (outside : Outside) (areas : List ℕ → Told) (s : State) → IsNew header s
    → (outside.paging ≡ true → AllTold areas s.pagers.items) → PagingIsKept header outside areas s
new_kept header outside areas s new told =
    let nothing : (h : ℕ) → content_of header h [] ≡ (λ o p. None) = λ h i o p. empty header h o p i in
    record {
      pagers = rw new.history (new_serve header s new);
      told = told;
      fits =
          λ on h pager at. rw new.history (subst (λ (z : Content). SlotsFit areas pager z) (sym (nothing h))
          (empty_fits header h pager areas (new.empty h pager at)));
    }

-- the files hold what they held
pub carry_none : (header : Header) (areas : List ℕ → Told) → FilesCarry header areas areas []
carry_none header areas = record {
  kept = λ object was file at. (was, at, λ host may. file_empty header.size host object was);
  others = λ name was apart at. at;
}

pub new_files_kept : (header : Header) (outside : Outside) (areas : List ℕ → Told) (s : State) → IsNew header s → FilesAreTold header outside areas
    → FilesAreKept header outside areas s
new_files_kept header outside areas s new told = record {
  files = rw new.history new.files;
  start = areas;
  told = told;
  kept = rw new.history (carry_none header areas);
}

-- one more, at the end of a list
last_cases : {A : Type 0} (xs : List A) (last x : A) (n : ℕ) → slice_get (xs ++ last ∷ []) n ≡ Some x → (slice_get xs n ≡ Some x)
    ⊎ ((length xs ≡ n) × (last ≡ x))
last_cases [] last x zero is = inr (refl, same_Some last x is)
last_cases [] last x (suc n) is = absurd (none-some x is)
last_cases (y ∷ xs) last x zero is = inl is
last_cases (y ∷ xs) last x (suc n) is = elim (last_cases xs last x n is) [ inl was ↦ inl was | inr end ↦ inr (ap (λ (k : ℕ). suc k) end.0, end.1) ]

-- one of them is still there
pub last_before : {A : Type 0} (xs : List A) (last x : A) (n : ℕ) → slice_get xs n ≡ Some x → slice_get (xs ++ last ∷ []) n ≡ Some x
last_before [] last x n is = absurd (none-some x is)
last_before (y ∷ xs) last x zero is = is
last_before (y ∷ xs) last x (suc n) is = last_before xs last x n is

pub last_there : {A : Type 0} (xs : List A) (last : A) → slice_get (xs ++ last ∷ []) (length xs) ≡ Some last
last_there [] last = refl
last_there (x ∷ xs) last = last_there xs last

-- the pagers of the first objects were made, and nothing came to them
pub record FilesAreMade (header : Header) (n : ℕ) (files : List FileTable) : Type 0 where
  pub count : length files ≡ n
  pub new : (object : ℕ) (pager : FileTable) → slice_get files object ≡ Some pager → pager ≡ new_table header object

pub no_files : (header : Header) → FilesAreMade header 0 []
no_files header = record { count = refl; new = λ object pager at. absurd (none-some pager at) }

pub files_more : (header : Header) (n : ℕ) (files : List FileTable) (last : FileTable) → FilesAreMade header n files → last ≡ new_table header n
    → FilesAreMade header (n + 1) (files ++ last ∷ [])
files_more header n files last was is = record {
  count = length-append files (last ∷ []) ∙ ap (λ (z : ℕ). z + 1) was.count;
  new = λ object pager at. elim (last_cases files last pager object at) [
    | inl old ↦ was.new object pager old
    | inr end ↦ subst (λ (z : ℕ). pager ≡ new_table header z) (sym was.count ∙ end.0) (sym end.1 ∙ is)
  ];
}

pub files_serve : (header : Header) (files : List FileTable) → FilesAreMade header (named header) files → AllFilesServe header files []
files_serve header files made = record {
  count = made.count;
  stand = λ object pager file at. subst (λ (z : FileTable). FileStands header object z []) (sym (made.new object pager at)) (file_start header object file);
}

-- the first of a list, with the next one

pub next_taken : {A : Type 0} (xs : List A) (n : ℕ) (x : A) → slice_get xs n ≡ Some x → take n xs ++ x ∷ [] ≡ take (n + 1) xs
next_taken [] n x is = absurd (none-some x is)
next_taken {A} (y ∷ xs) zero x is = ap (λ (z : A). z ∷ []) (sym (same_Some y x is))
next_taken {A} (y ∷ xs) (suc n) x is =
    let more : suc n + 1 ≡ suc (n + 1) = omega arith in
    ap (λ (z : List A). y ∷ z) (next_taken xs n x is) ∙ ap (λ (k : ℕ). take k (y ∷ xs)) (sym more)

pub all_taken : {A : Type 0} (xs : List A) → take (length xs) xs ≡ xs
all_taken [] = refl
all_taken {A} (x ∷ xs) = ap (λ (z : List A). x ∷ z) (all_taken xs)

name_is : (header : Header) (n : ℕ) (object : Declared) → slice_get (reverse header.objects.items) n ≡ Some object → object.name ≡ name_of header n
name_is header n object at = rw at refl

pub table_is : (header : Header) (n : ℕ) (object : Declared) (pager : FileTable) → slice_get (reverse header.objects.items) n ≡ Some object
    → pager ≡ record { object = n; name = object.name; size = header.size; known = None; lost = [] } → pager ≡ new_table header n
table_is header n object pager at is =
    subst (λ (z : List ℕ). pager ≡ record { object = n; name = z; size = header.size; known = None; lost = [] }) (name_is header n object at) is

-- so many pagers were made, to which nothing was returned
pub record AreMade (header : Header) (n : ℕ) (pagers : List SlotTable) : Type 0 where
  pub count : length pagers ≡ n
  pub empty : AreEmpty header pagers

pub none_made : (header : Header) → AreMade header 0 []
none_made header = record { count = refl; empty = λ h pager at. absurd (let bad : None ≡ Some pager = at in cc) }

pub made_more : (header : Header) (n : ℕ) (pagers : List SlotTable) (last : SlotTable) → AreMade header n pagers
    → last ≡ record { host = n; size = header.size; count = header.slots; rows = [] } → AreMade header (n + 1) (pagers ++ last ∷ [])
made_more header n pagers last was is = record {
  count = length-append pagers (last ∷ []) ∙ ap (λ (z : ℕ). z + 1) was.count;
  empty = λ h pager at. elim (last_cases pagers last pager h at) [
    | inl old ↦ was.empty h pager old
    | inr end ↦ subst (λ (z : ℕ). pager ≡ record { host = z; size = header.size; count = header.slots; rows = [] }) (sym was.count ∙ end.0) (sym end.1 ∙ is)
  ];
}
