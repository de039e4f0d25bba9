-- Why a record isn't read.
use Rattle.csv.specs.declared.error.ErrorKind.{ErrorKind}
use Rattle.csv.specs.declared.error.ErrorKind.TheVariants as error
use Rattle.csv_records.specs.declared.interruption.Interruption.{Interruption}
use Rattle.csv_records.specs.declared.interruption.Interruption.TheVariants.{Read, Memory}

-- the interruption that an error of `csv` tells: memory that it was refused, or else a fault of reading
abbrev pub interruption_of : ErrorKind → Interruption
interruption_of error.OutOfMemory = Memory
interruption_of (error.Io fault) = Read
interruption_of (error.Utf8 place fault) = Read
interruption_of (error.UnequalLengths place expected length) = Read
interruption_of (error.Serialize text) = Read
interruption_of (error.Deserialize place fault) = Read
