-- What holds of declarations holds of them in scope; and where the root and Body declare nothing
-- but what every reply does, children need no declaration.
use Rattle.std.proofs.Common.{Bool, Equal, Greater, Less, List, Ordering, [], filter, nat_cmp, not}
use Rattle.std.proofs.{Common.refl, Common.true, Common.◌∷◌, Common.◌≡◌, lemmas.Bool.and_parts}
use Rattle.std.specs.{Cmp.Lexicographic.slice_cmp, List.list_all}
use Rattle.soap_envelope.specs.Body.{is_usual, needed, placed, put, put_all}
use Rattle.soap_envelope.specs.{Scopes.Declaration, declared.versions.Addressing.Addressing}

all-placed : (p : Declaration → Bool) (o : Ordering) (d e : Declaration)
    (more behind : List Declaration)
    → p d ≡ true → list_all p (e ∷ more) ≡ true → list_all p behind ≡ true
    → list_all p (placed o d e more behind) ≡ true
all-placed p Less d e more behind h k b = rw h k
all-placed p Equal d e more behind h k b = rw h (and_parts (p e) (list_all p more) k).1
all-placed p Greater d e more behind h k b = rw (and_parts (p e) (list_all p more) k).0 b

pub all-put : (p : Declaration → Bool) (d : Declaration) (ds : List Declaration)
    → p d ≡ true → list_all p ds ≡ true → list_all p (put d ds) ≡ true
all-put p d [] h k = rw h refl
all-put p d (e ∷ more) h k =
    all-placed p (slice_cmp nat_cmp d.prefix e.prefix) d e more (put d more) h k
    (all-put p d more h (and_parts (p e) (list_all p more) k).1)

pub all-put-all : (p : Declaration → Bool) (ds others : List Declaration)
    → list_all p ds ≡ true → list_all p others ≡ true → list_all p (put_all ds others) ≡ true
all-put-all p [] others h k = k
all-put-all p (d ∷ more) others h k =
    let parts = and_parts (p d) (list_all p more) h in
    all-put-all p more (put d others) parts.1 (all-put p d others parts.0 k)

none-left : (p : Declaration → Bool) (ds : List Declaration) → list_all p ds ≡ true
    → filter (λ d. not (p d)) ds ≡ []
none-left p [] h = refl
none-left p (d ∷ more) h =
    let parts = and_parts (p d) (list_all p more) h in
    rw parts.0 (none-left p more parts.1)

pub needs_none : (version : Addressing) (root body : List Declaration)
    → list_all (is_usual version) root ≡ true → list_all (is_usual version) body ≡ true
    → needed version (body ∷ root ∷ []) ≡ []
needs_none version root body h k =
    none-left (is_usual version) (put_all body (put_all root []))
    (all-put-all (is_usual version) body (put_all root []) k (all-put-all (is_usual version) root
    [] h refl))
