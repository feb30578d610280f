-- The texts of a survey, in the parts in which they are written.
use Rattle.std.proofs.Common.{◌≡◌, ◌==◌, ℕ, List, [], ◌++◌, append_assoc, codes, if◌then◌else◌}
use Rattle.std.proofs.lemmas.Bool.{cond-false, cond-true, eq-eqb, ne_eqb}
use Rattle.std.specs.Fmt.{decimal}
use Rattle.mdb_surveyor.specs.declared.counts.FaultCounts.{FaultCounts}
use Rattle.mdb_surveyor.specs.declared.stretch.Stretch.{Stretch}
use Rattle.mdb_surveyor.specs.SurveyText.{faults_line, stretch_line}

-- a text that is there where something isn't 0
pub if_some : (count : ℕ) (text : List ℕ) → (count ≡ 0 → ⊥)
    → (if count == 0 then [] else text) ≡ text
if_some count text some = cond-false (count == 0) [] text (ne_eqb count 0 some)

pub if_none : (count : ℕ) (text : List ℕ) → count ≡ 0 → (if count == 0 then [] else text) ≡ []
if_none count text none = cond-true (count == 0) [] text (eq-eqb count 0 none)

-- the first line of a stretch, as it is written
abbrev pub stretch_bytes : Stretch → List ℕ
stretch_bytes stretch =
    codes "stretch " ++ (decimal stretch.number ++ (codes " rows " ++ (decimal stretch.first
    ++ (codes "-" ++ (decimal stretch.last ++ codes "\n")))))

pub stretch_parts : (stretch : Stretch) → stretch_bytes stretch ≡ stretch_line stretch
stretch_parts stretch = simp append_assoc

-- the line of the faults is written in three parts
abbrev pub faults_first : FaultCounts → List ℕ
faults_first faults =
    codes "faults " ++ (decimal faults.all ++ (codes " controller " ++ (decimal faults.controller
    ++ (codes " changer " ++ (decimal faults.changer ++ (codes " bill " ++ decimal faults.bill))))))

abbrev pub faults_second : FaultCounts → List ℕ
faults_second faults =
    codes " cashless "
    ++ (decimal faults.cashless ++ (codes " cashless-2 " ++ decimal faults.cashless_2))

abbrev pub faults_third : FaultCounts → List ℕ
faults_third faults =
    codes " other "
    ++ (decimal faults.other ++ (codes " profile " ++ (decimal faults.profile ++ codes "\n")))

pub faults_parts : (faults : FaultCounts)
    → (faults_first faults ++ faults_second faults) ++ faults_third faults ≡ faults_line faults
faults_parts faults = simp append_assoc
