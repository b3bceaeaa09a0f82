-- The line of an address: how often it was executed, the least and the most cycles to its routine's own return that
-- were seen there, and the lowest SP after it.
-- Assumes nothing.
use Rattle.std.specs.Prelude.{ℕ, ◌+◌, cond, List, [], ◌++◌, eqb, ltb}
use Rattle.registers.specs.Word.{smaller_of}
use Rattle.text.specs.declared.listing.Listing.{Listing}
use Rattle.lists.specs.Ascii.{ascii}
use Rattle.text.specs.declared.summary.Visits.{Visits}
use Rattle.text.specs.Line.{field_text}
use Rattle.text.specs.Columns.{word_field, listing_text}

abbrev pub greater_of : ℕ → ℕ → ℕ
greater_of a b = cond (ltb b a) a b

-- one visit more, with so many cycles to go and this SP after it
abbrev pub visited_of : Visits → (go sp : ℕ) → Visits
visited_of v go sp =
    cond (eqb v.times 0) (record { times = 1; least = go; most = go; lowest = sp })
    (record {
      times = v.times + 1;
      least = smaller_of v.least go;
      most = greater_of v.most go;
      lowest = smaller_of v.lowest sp;
    })

-- of an address that was never executed there is nothing more to say
unfoldable pub visits_text : Visits → List ℕ
visits_text v =
    field_text (ascii " times=") v.times
    ++ cond (eqb v.times 0) [] (field_text (ascii " least=") v.least ++ (field_text (ascii " most=") v.most ++
    word_field " lowest=" v.lowest))

unfoldable pub summary_line : (address : ℕ) → Listing → Visits → (cost : ℕ) → List ℕ
summary_line a l v cost = listing_text a l ++ (visits_text v ++ (field_text (ascii " cost=") cost ++ ascii "\n"))
