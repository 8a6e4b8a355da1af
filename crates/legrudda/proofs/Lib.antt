pub mod ExportedLaws
pub mod RoomLaws
pub mod NeverTwelve
