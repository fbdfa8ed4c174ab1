-- Believed: what contracts see of a part of a history.
use Rattle.std.specs.Prelude.{◌≡◌, ℕ, ◌+◌, ◌==◌, List, length, filter, refl}
use Rattle.std.specs.List.{flat_map}
use Rattle.std.specs.Coded.{Coded, code_by, coded×, coded_list, coded_ℕ}
use Rattle.sqlite.specs.Held.{Held, held_code, state}
use Rattle.sqlite.specs.State.{HasCleanDisk}
use Rattle.sqlite_trees.specs.declared.store.Store.{Ghosts}
use Rattle.escrow_transcript.specs.contracts.base.Base as base
use Rattle.escrow_transcript.specs.contracts.entry.Entry as entry
use Rattle.escrow_transcript.specs.declared.base.Base.{Base}
use Rattle.escrow_transcript.specs.declared.entry.Entry.{Entry}
use Rattle.escrow_transcript.specs.Image.{started}
use Rattle.escrow_transcript.specs.Legal.{IsLegal}

-- what contracts see of a part: its database, counted from 0; its number, from 1; where it begins; its entries; where
-- it ends; and the store, as it was when the part was handed out
pub record Part (S : Type 0) : Type 0 where
  pub database : ℕ
  pub number : ℕ
  pub base : Base
  pub entries : List Entry
  pub end : Base
  pub store : Held S

abbrev pub part_code : {S : Type 0} → Coded S → Coded (Part S)
part_code {S} store =
    code_by (ℕ × (ℕ × (Base × (List Entry × (Base × Held S)))))
    (coded× coded_ℕ (coded× coded_ℕ
    (coded× base.the_row.coded
    (coded× (coded_list entry.the_row.coded) (coded× base.the_row.coded (held_code store))))))
    (λ p. (p.database, (p.number, (p.base, (p.entries, (p.end, p.store))))))
    (λ p. record {
      database = p.0;
      number = p.1.0;
      base = p.1.1.0;
      entries = p.1.1.1.0;
      end = p.1.1.1.1.0;
      store = p.1.1.1.1.1;
    })
    (λ _. refl)

-- What always holds of a part. If the disk had returned what was written when the part was handed out, its transcript
-- is legal, up to its end. The number at its end is that at its base plus the number of its entries.
pub record IsSound {S : Type 0} (g : Ghosts S) (p : Part S) : Type 0 where
  pub legal : HasCleanDisk (state g p.store) → IsLegal p.base p.entries (started p.end.image)
  pub counts : p.end.before ≡ p.base.before + length p.entries

-- the parts of a database, in their order
abbrev pub parts_of : {S : Type 0} → ℕ → List (Part S) → List (Part S)
parts_of d parts = filter (λ p. p.database == d) parts

-- the entries of parts, one after another
abbrev pub entries_of : {S : Type 0} → List (Part S) → List Entry
entries_of parts = flat_map (λ p. p.entries) parts
